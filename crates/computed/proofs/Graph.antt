-- The computed graph is the concrete graph, and the computed rows say what is reached.
use Rattle.std.proofs.Common.{◌≡◌, ℕ, zero, suc, ◌<◌, Bool, true, false, not, ◌&&◌, ◌||◌, List, [], length, get_or, sym, ap, ◌∙◌, inl, inr, arith}
use Rattle.std.proofs.lemmas.Bool.{and_from, and_parts, both_ways, cases_lt, false_from_ne_true, not-true, not_from_false, or_cases, or_left, or_right}
use Rattle.task.specs.declared.node.Node.{Node}
use Rattle.task.specs.declared.node.Numbering.TheVariants.{Choice, Branch}
use Rattle.task.specs.Concrete.{Led, first, next, IsConcrete, Member, Reached, Rises}
use Rattle.task.specs.Graph.{edge, Upward}
use Rattle.task.specs.Picks.{by_both, by_choice, keeps}
use Rattle.task.specs.Tables.{leads, Tells}
use Rattle.task.proofs.Leading.{some_rise, told_same}
use Rattle.computed.specs.Graph.{concrete, is_led, kept, led, reached_of, rows}
use Rattle.computed.specs.Tables.{each, some_below}
use Rattle.computed.proofs.Tables.{each_at, each_past, length-rising, LooksBack, rising_at, rising_past, some_below_at, some_below_found, some_below_same}

-- the edges between the numbers below n that lead to a higher one
abbrev pub Climbs : (ℕ → ℕ → Bool) → ℕ → Type 0
Climbs F n = (u v : ℕ) → F u v ≡ true → (u < v) × (v < n)

pub rows_lead : (F : ℕ → ℕ → Bool) (n : ℕ) → Climbs F n → (u v : ℕ) → leads (rows F n) u v ≡ F u v
rows_lead F n climbs u v = elim (cases_lt v n) [
  | inl inside ↦
      let row = each_at (λ w. each (λ x. F x w) w) n v [] inside in
      ap (λ r. get_or r u false) row
      ∙ elim (cases_lt u v) [
        | inl below ↦ each_at (λ x. F x v) v u false below
        | inr above ↦ each_past (λ x. F x v) v u false above ∙ sym (false_from_ne_true (F u v) (λ y. omega (arith, (climbs u v y).0)))
      ]
  | inr past ↦
      ap (λ r. get_or r u false) (each_past (λ w. each (λ x. F x w) w) n v [] past) ∙ sym (false_from_ne_true (F u v) (λ y. omega (arith, (climbs u v y).1)))
]

module _ (ns : List Node) (keep : ℕ → ℕ → Bool) where
  is_led_back : LooksBack (is_led ns keep)
  is_led_back a b v same =
      ap (λ x. not (some_below (λ u. edge ns u v) v) || x)
      (some_below_same (λ u. keep u v && a u) (λ u. keep u v && b u) v (λ u low. ap (λ x. keep u v && x) (same u low)))

  module _ (upward : Upward ns) (rises : Rises ns keep) where
    led_is : (v : ℕ) → v < length ns → get_or (led ns keep) v false ≡ is_led ns keep (λ u. get_or (led ns keep) u false) v
    led_is v low = rising_at false (is_led ns keep) is_led_back (length ns) v low

    led_sound : (k v : ℕ) → v < k → get_or (led ns keep) v false ≡ true → Led ns keep v
    led_sound zero v low y = absurd (omega arith)
    led_sound (suc k) v low y = elim (cases_lt v (length ns)) [
      | inl inside ↦ elim (or_cases _ _ (sym (led_is v inside) ∙ y)) [
        | inl none ↦
            first inside
            (λ u. false_from_ne_true (edge ns u v)
            (λ e. both_ways (some_below (λ w. edge ns w v) v) (not-true _ none) (some_below_at (λ w. edge ns w v) v u (upward u v e) e)))
        | inr some ↦
            let (u, below, both) = some_below_found (λ w. keep w v && get_or (led ns keep) w false) v some in
            let (e, m) = and_parts (keep u v) (get_or (led ns keep) u false) both in
            next (led_sound k u (omega arith) m) e
      ]
      | inr past ↦ absurd (both_ways (get_or (led ns keep) v false) (rising_past false (is_led ns keep) (length ns) v past) y)
    ]

    led_whole : {v : ℕ} → Led ns keep v → get_or (led ns keep) v false ≡ true
    led_whole (first {v} inside none) =
        led_is v inside
        ∙ or_left _ _ (not_from_false _ (false_from_ne_true _ (λ y. let (u, low, e) = some_below_found (λ w. edge ns w v) v y in both_ways (edge ns u v) (none u) e)))
    led_whole (next {u} {v} l e) =
        let (low, inside) = rises u v e in
        led_is v inside
        ∙ or_right _ _ (some_below_at (λ w. keep w v && get_or (led ns keep) w false) v u low (and_from _ _ e (led_whole l)))

    pub led_told : Tells (Led ns keep) (led ns keep)
    led_told v = (λ y. led_sound (suc v) v (omega arith) y, λ l. led_whole l)

module _ (ns : List Node) (upward : Upward ns) (c : ℕ) where
  choice_rises : Rises ns (by_choice ns c)
  choice_rises = some_rise ns upward (by_choice ns c) (λ u v y. (and_parts (edge ns u v) (keeps Choice ns c u v) y).0)

  kept_is : (u v : ℕ) → leads (kept ns c) u v ≡ by_choice ns c u v
  kept_is = rows_lead (by_choice ns c) (length ns) choice_rises

  kept_rises : Rises ns (leads (kept ns c))
  kept_rises u v y = choice_rises u v (sym (kept_is u v) ∙ y)

  pub members_told : Tells (Member ns c) (led ns (leads (kept ns c)))
  members_told = told_same ns (leads (kept ns c)) (by_choice ns c) kept_is (led ns (leads (kept ns c))) (led_told ns (leads (kept ns c)) upward kept_rises)

  length-members : length (concrete ns c).members ≡ length ns
  length-members = length-rising false (is_led ns (leads (kept ns c))) (length ns)

  edges_are : (u v : ℕ) → leads (concrete ns c).edges u v ≡ (leads (kept ns c) u v && get_or (concrete ns c).members u false)
  edges_are = rows_lead (λ u v. leads (kept ns c) u v && get_or (concrete ns c).members u false) (length (concrete ns c).members) (λ u v y.
      let (low, inside) = kept_rises u v (and_parts (leads (kept ns c) u v) (get_or (concrete ns c).members u false) y).0 in
      (low, omega (arith, length-members)))

  pub concrete_is : IsConcrete ns c (concrete ns c)
  concrete_is = record {
    nodes = members_told;
    edges = λ u v. (
      (λ y.
          let (k, m) = and_parts (leads (kept ns c) u v) (get_or (concrete ns c).members u false) (sym (edges_are u v) ∙ y) in
          ((members_told u).0 m, sym (kept_is u v) ∙ k)),
      (λ both. edges_are u v ∙ and_from _ _ (kept_is u v ∙ both.1) ((members_told u).1 both.0)),
    );
  }

  abbrev kept_by_both : ℕ → List (List Bool)
  kept_by_both b = rows (λ u v. leads (kept ns c) u v && keeps Branch ns b u v) (length ns)

  kept_by_both_is : (b u v : ℕ) → leads (kept_by_both b) u v ≡ by_both ns c b u v
  kept_by_both_is b u v =
      rows_lead (λ x y. leads (kept ns c) x y && keeps Branch ns b x y) (length ns) (λ x y e. kept_rises x y (and_parts (leads (kept ns c) x y) (keeps Branch ns b x y) e).0) u v
      ∙ ap (λ k. k && keeps Branch ns b u v) (kept_is u v)

  pub reached_told : (b : ℕ) → Tells (Reached ns c b) (reached_of ns (kept ns c) b)
  reached_told b =
      let rises : Rises ns (leads (kept_by_both b)) = λ u v y. choice_rises u v (and_parts (by_choice ns c u v) (keeps Branch ns b u v) (sym (kept_by_both_is b u v) ∙ y)).0 in
      told_same ns (leads (kept_by_both b)) (by_both ns c b) (kept_by_both_is b) (reached_of ns (kept ns c) b) (led_told ns (leads (kept_by_both b)) upward rises)
