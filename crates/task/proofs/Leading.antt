-- What the kept edges lead to: one step back, the same under equal edges, and a turn of the loop that finds it.
use Rattle.std.proofs.Common.{◌≡◌, ℕ, ◌+◌, ◌<◌, ◌≤◌, Bool, true, false, ◌&&◌, ◌⊎◌, List, length, get_or, set, Decides, refl, sym, ap, ◌∙◌, subst, inl, inr, arith}
use Rattle.std.proofs.lemmas.List.{get_or-set_same, get_or-set_other}
use Rattle.std.proofs.lemmas.Bool.{cases_eq, cases_lt, cases_Bool, and_from, and_parts, both_ways}
use Rattle.task.specs.declared.node.Node.{Node}
use Rattle.task.specs.declared.node.Numbering.{Numbering}
use Rattle.task.specs.Concrete.{Led, first, next, Rises}
use Rattle.task.specs.Graph.{edge, Upward}
use Rattle.task.specs.Picks.{keeps}
use Rattle.task.specs.Tables.{Tells, leads}
use Rattle.task.proofs.Places.{edge_inside}

pub led_back : {ns : List Node} {keep : ℕ → ℕ → Bool} {v : ℕ} → Led ns keep v → ((u : ℕ) → edge ns u v ≡ false) ⊎ ((u : ℕ) × Led ns keep u × (keep u v ≡ true))
led_back (first inside none) = inl none
led_back (next {u} l k) = inr (u, l, k)

pub led_same : {ns : List Node} (k j : ℕ → ℕ → Bool) → ((u v : ℕ) → k u v ≡ j u v) → {v : ℕ} → Led ns k v → Led ns j v
led_same k j same (first inside none) = first inside none
led_same k j same (next {u} {v} l e) = next (led_same k j same l) (sym (same u v) ∙ e)

pub led_inside : {ns : List Node} {keep : ℕ → ℕ → Bool} → Rises ns keep → {v : ℕ} → Led ns keep v → v < length ns
led_inside rises (first inside none) = inside
led_inside rises (next {u} {v} l e) = (rises u v e).1

-- the table has one place more
pub decides_turn : (P : ℕ → Type 0) (was : List Bool) (v : ℕ) (x : Bool) → v < length was → ((w : ℕ) → w < v → Decides (get_or was w false) (P w)) → Decides x (P v)
    → (w : ℕ) → w < v + 1 → Decides (get_or (set was v x) w false) (P w)
decides_turn P was v x room before here w below = elim (cases_eq w v) [
  | inl e ↦
      let same = ap (λ k. get_or (set was v x) k false) e ∙ get_or-set_same was v x false room in
      (λ y. subst P (sym e) (here.0 (sym same ∙ y)), λ p. same ∙ here.1 (subst P e p))
  | inr ne ↦
      let same = get_or-set_other was v w x false ne in
      let there = before w (omega arith) in
      (λ y. there.0 (sym same ∙ y), λ p. same ∙ there.1 p)
]

module _ (ns : List Node) (keep : ℕ → ℕ → Bool) (rises : Rises ns keep) (was : List Bool) (v : ℕ) (inside : v < length ns)
    (before : (w : ℕ) → w < v → Decides (get_or was w false) (Led ns keep w)) where
  pub led_from : (u : ℕ) → (keep u v && get_or was u false) ≡ true → Led ns keep v
  led_from u y =
      let (k, m) = and_parts (keep u v) (get_or was u false) y in
      next ((before u (rises u v k).0).0 m) k

  pub led_by : (u : ℕ) → edge ns u v ≡ true → ((w : ℕ) → (keep w v && get_or was w false) ≡ false) → Led ns keep v → ⊥
  led_by u in' none l = elim (led_back l) [
    | inl no-in ↦ both_ways (edge ns u v) (no-in u) in'
    | inr back ↦
        let (w, lw, k) = back in
        both_ways (keep w v && get_or was w false) (none w) (and_from (keep w v) (get_or was w false) k ((before w (rises w v k).0).1 lw))
  ]

pub told_same : (ns : List Node) (k j : ℕ → ℕ → Bool) → ((u v : ℕ) → k u v ≡ j u v) → (table : List Bool) → Tells (Led ns k) table → Tells (Led ns j) table
told_same ns k j same table tells v =
    (λ y. led_same k j same ((tells v).0 y), λ l. (tells v).1 (led_same j k (λ u w. sym (same u w)) l))

-- some of the edges of the graph
pub some_rise : (ns : List Node) → Upward ns → (keep : ℕ → ℕ → Bool) → ((u v : ℕ) → keep u v ≡ true → edge ns u v ≡ true) → Rises ns keep
some_rise ns upward keep some u v y = (upward u v (some u v y), edge_inside ns u v (some u v y))

-- edges of the graph of which the test K keeps some
module _ (ns : List Node) (upward : Upward ns) (was will : List (List Bool)) (F K : ℕ → ℕ → Bool) (same : (u v : ℕ) → leads was u v ≡ F u v)
    (some : (u v : ℕ) → F u v ≡ true → edge ns u v ≡ true)
    (inside : (u v : ℕ) → v < length ns → leads will u v ≡ (leads was u v && K u v)) (outside : (u v : ℕ) → length ns ≤ v → leads will u v ≡ false) where
  pub restricted_same : (u v : ℕ) → leads will u v ≡ (F u v && K u v)
  restricted_same u v = elim (cases_lt v (length ns)) [
    | inl below ↦ inside u v below ∙ ap (λ b. b && K u v) (same u v)
    | inr past ↦ elim (cases_Bool (F u v)) [
      | inl y ↦ absurd (omega (arith, edge_inside ns u v (some u v y)))
      | inr n ↦ outside u v past ∙ sym (ap (λ b. b && K u v) n)
    ]
  ]

  pub restricted_rises : Rises ns (leads will)
  restricted_rises = some_rise ns upward (leads will) (λ u v y. some u v (and_parts (F u v) (K u v) (sym (restricted_same u v) ∙ y)).0)

-- what a number keeps of some edges, said of the same nodes and the same number
pub kept_same : (m m' : Numbering) (ns ns' : List Node) (k k' : ℕ) → m' ≡ m → ns' ≡ ns → k' ≡ k → (a b : Bool) → a ≡ b → (u v : ℕ) → (a && keeps m' ns' k' u v) ≡ (b && keeps m ns k u v)
kept_same m m' ns ns' k k' im ins' ik a b is u v = rw (im, ins', ik, is) refl
