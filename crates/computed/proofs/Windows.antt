-- The computed windows are those of the concrete graph.
use Rattle.std.proofs.Common.{◌≡◌, ℕ, ◌<◌, ◌≤◌, Bool, true, false, cond, List, length, get_or, MatchBool, refl, sym, ap, ◌∙◌, inl, inr, arith}
use Rattle.std.proofs.lemmas.Bool.{cases_Bool, cases_lt}
use Rattle.slack.specs.declared.rule.Position.{Position}
use Rattle.task.specs.declared.node.Node.{Node}
use Rattle.task.specs.declared.tables.Concrete.{Concrete}
use Rattle.task.specs.Concrete.{IsConcrete}
use Rattle.task.specs.Graph.{at}
use Rattle.task.specs.Node.{is_sub_task}
use Rattle.task.specs.Nodes.{Sound}
use Rattle.task.specs.Tables.{leads}
use Rattle.task.proofs.Leading.{led_inside}
use Rattle.window.specs.declared.layout.Lengths.{Lengths}
use Rattle.window.specs.declared.layout.Window.{Window}
use Rattle.window.specs.Greatest.{greatest}
use Rattle.window.specs.Recurrences.{Laid}
use Rattle.window.specs.Windows.{closed, deadline_of, IsWindows, offset_of, position}
use Rattle.window.proofs.Laying.{laid_same, laid_windows}
use Rattle.window.proofs.Longest.{ascends, rises}
use Rattle.window.proofs.Maxima.{greatest_same}
use Rattle.computed.specs.Windows.{due, ends, opens, windows_by, windows_of}
use Rattle.computed.proofs.Tables.{each_at, each_past, LooksBack, rising_at, rising_past}

-- a member opens at G and is due at D; else both are 0
match_cond : (m : Bool) (G x : ℕ) (D : ℕ → ℕ) → x ≡ cond m (D (cond m G 0)) 0 → MatchBool m ((cond m G 0 ≡ G) × (x ≡ D (cond m G 0))) ((cond m G 0 ≡ 0) × (x ≡ 0))
match_cond true G x D e = (refl, e)
match_cond false G x D e = (refl, e)

module _ (ns : List Node) (sound : Sound ns) (c d : ℕ) (g : Concrete) (is : IsConcrete ns c g) (L : ℕ → ℕ) where
  opens_back : (a b : ℕ → ℕ) (v : ℕ) → ((u : ℕ) → u < v → a u ≡ b u) → opens g a v ≡ opens g b v
  opens_back a b v same = ap (λ k. cond (get_or g.members v false) k 0) (greatest_same (λ u. leads g.edges u v) a b 24 (λ u low y. same u (ascends ns sound c g is u v y).0))

  due_back : LooksBack (due ns g L)
  due_back a b v same = ap (λ k. cond (get_or g.members v false) (cond (is_sub_task (at ns v)) (L v) k) 0) (opens_back a b v same)

  member_low : (v : ℕ) → get_or g.members v false ≡ true → v < length ns
  member_low v y = led_inside (rises ns sound c) ((is.nodes v).0 y)

  ends_are : (v : ℕ) → get_or (ends ns g L) v 0 ≡ due ns g L (λ u. get_or (ends ns g L) u 0) v
  ends_are v = elim (cases_lt v (length ns)) [
    | inl low ↦ rising_at 0 (due ns g L) due_back (length ns) v low
    | inr past ↦ elim (cases_Bool (get_or g.members v false)) [
      | inl y ↦ absurd (omega (arith, member_low v y))
      | inr n ↦ rising_past 0 (due ns g L) (length ns) v past ∙ sym (ap (λ m. cond m (cond (is_sub_task (at ns v)) (L v) (opens g (λ u. get_or (ends ns g L) u 0) v)) 0) n)
    ]
  ]

  opens_past : (e : ℕ → ℕ) (v : ℕ) → length ns ≤ v → opens g e v ≡ 0
  opens_past e v past = elim (cases_Bool (get_or g.members v false)) [
    | inl y ↦ absurd (omega (arith, member_low v y))
    | inr n ↦ ap (λ m. cond m (greatest (λ u. leads g.edges u v) e 24) 0) n
  ]

  -- the windows read off the ends
  abbrev made : List Window
  made = windows_of g (ends ns g L) (length ns)

  window_at : (v : ℕ) → (offset_of made v ≡ opens g (λ u. get_or (ends ns g L) u 0) v) × (deadline_of made v ≡ get_or (ends ns g L) v 0)
  window_at v =
      let F : ℕ → Window = λ w. record { offset = opens g (λ u. get_or (ends ns g L) u 0) w; deadline = get_or (ends ns g L) w 0 } in
      elim (cases_lt v (length ns)) [
        | inl low ↦ let here = each_at F (length ns) v closed low in (ap (λ (w : Window). w.offset) here, ap (λ (w : Window). w.deadline) here)
        | inr past ↦
            let none = each_past F (length ns) v closed past in (
              ap (λ (w : Window). w.offset) none ∙ sym (opens_past (λ u. get_or (ends ns g L) u 0) v past),
              ap (λ (w : Window). w.deadline) none ∙ sym (rising_past 0 (due ns g L) (length ns) v past),
            )
      ]

  made_laid : (v : ℕ) → Laid ns g L (offset_of made) (deadline_of made) v
  made_laid v =
      let E : ℕ → ℕ = λ u. get_or (ends ns g L) u 0 in
      laid_same ns g L (opens g E) E (offset_of made) (deadline_of made) (λ u. (window_at u).0) (λ u. (window_at u).1) v
      (match_cond (get_or g.members v false) (greatest (λ u. leads g.edges u v) E 24) (E v) (cond (is_sub_task (at ns v)) (L v)) (ends_are v))

pub windows_are : (ns : List Node) → Sound ns → (c d : ℕ) (g : Concrete) → IsConcrete ns c g → (local : Position → ℕ) (l : Lengths) → IsWindows ns c d local l (windows_by local ns d g l)
windows_are ns sound c d g is local l =
    laid_windows ns sound c d g is local l (windows_by local ns d g l) (made_laid ns sound c d g is (λ v. local (position d l v)))
