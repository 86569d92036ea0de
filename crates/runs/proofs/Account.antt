-- The account of the work: what arrivals asked is still pending, or was served.
use Rattle.std.proofs.Common.{◌≡◌, ℕ, ◌+◌, ◌≤◌, Bool, true, false, cond, ◌&&◌, ◌==◌, nat_le, Option, Some, None, List, [], ◌∷◌, ◌++◌, length, drop, sum_by, count_by, refl, sym, ap, ◌∙◌, inl, inr, arith}
use Rattle.std.specs.List.{AllByRecursion}
use Rattle.std.proofs.lemmas.Bool.{and_from, and_left, and_parts, and_right, both_ways, cases_Bool, cases_lt, eqb-true, false≢true, le-leb, leb-true, lt-leb}
use Rattle.std.proofs.lemmas.List.{drop-append-le, drop_all}
use Rattle.std.proofs.lemmas.List.Sums.{sum_by-append}
use Rattle.runs.specs.Job.{Apart, branch_of}
use Rattle.runs.specs.State.{each, finished, is_pending, late, left_of, OpenTask, pending, Phase, Slot, tasks_of}
use Rattle.runs.specs.Next.{Key}
use Rattle.runs.specs.Events.{advance, arrive_at, arrived, choices, free_at, granted, opened, run, same, serve, worked}
use Rattle.runs.specs.Runs.{served_ticks}
use Rattle.runs.proofs.Lists.{all_both, all_from_mem, cond_both, Mem}
use Rattle.runs.proofs.Sums.{bit, count_none, sum_flat, sum_map, sum_two, sum_zero, unique}
use Rattle.runs.proofs.Tasks.{lies, same_self, wanted}
use Rattle.runs.proofs.Choice.{next_some}
use Rattle.runs.proofs.Slots.{asks, asks_more, Good, granted_parts, Over, tasks_each, Timely, wants}
use Rattle.runs.proofs.Keys.{Keyed, once_in_all}

-- the ticks left of an open sub-task on the engine e whose window lies between x and y
abbrev pub held : (e x y : ℕ) → OpenTask → ℕ
held e x y p = cond (lies e x y p) (left_of p.phase) 0

abbrev pub holds : (e x y : ℕ) → Slot → ℕ
holds e x y s = sum_by (held e x y) s.tasks

-- of windows between x and y, what all arrivals asked is still pending, or was served from x on
pub record Account (past : List (ℕ → Bool)) (slots : List Slot) : Type 0 where
  pub balanced : (e x y : ℕ) → sum_by (asks e x y) slots ≤ sum_by (holds e x y) slots + served_ticks e (drop x past)

-- what is due and not overdue is finished
pub nothing_held : (e x y t : ℕ) (p : OpenTask) → Timely t p → p.task.due ≤ t → held e x y p ≡ 0
nothing_held e x y t p h l = go p.phase refl
  where
    zero_both : (b : Bool) → ◌≡◌ {A = ℕ} (cond b 0 0) 0
    zero_both true = refl
    zero_both false = refl

    inside : Bool
    inside = lies e x y p

    go : (f : Phase) → p.phase ≡ f → cond inside (left_of p.phase) 0 ≡ 0
    go (pending n) q = absurd (both_ways _ h (and_from _ _ (ap is_pending q) (le-leb _ _ l)))
    go finished q = ap (λ f. cond inside (left_of f) 0) q ∙ zero_both inside
    go late q = ap (λ f. cond inside (left_of f) 0) q ∙ zero_both inside

-- an arrival asks for what it opens, and drops nothing that is pending
abbrev pub Covers : (e x y t j b : ℕ) → Slot → Type 0
Covers e x y t j b s = asks e x y (arrive_at t j b s) + holds e x y s ≤ asks e x y s + holds e x y (arrive_at t j b s)

module _ (engines t j b : ℕ) where
  pub arrive_account : (e x y : ℕ) (s : Slot) → Good engines s → AllByRecursion (Timely t) s.tasks → Covers e x y t j b s
  arrive_account e x y s g h = cond_both (granted t j b s) (arrived t b s) s (λ r. asks e x y r + holds e x y s ≤ asks e x y s + holds e x y r)
      (λ is.
      let (known, free) = granted_parts engines t j b s is in
      let none = sum_zero (held e x y) s.tasks (all_both (Timely t) (Over (free_at s.job s.arrivals)) (λ p. held e x y p ≡ 0)
      (λ p a o. nothing_held e x y t p a (omega arith)) s.tasks h g.over) in
      let opens = sum_map (held e x y) (opened s.job.number t) (branch_of s.job b) ∙ sym (sum_map (wanted e x y) (opened s.job.number t) (branch_of s.job b)) in
      omega (arith, wants engines t b s g known e x y, asks_more e x y t b s))
      (λ _. omega arith)

-- what runs on an engine that chose o; and if it is served at t, which is x or later
abbrev hit : Option Key → OpenTask → Bool
hit None p = false
hit (Some k) p = same k p.task

abbrev ran : ℕ → Option Key → Bool → ℕ → OpenTask → Bool
ran t o on x p = on && (nat_le x t && hit o p)

-- without a report, a tick takes one tick at most
worked_drop : (f : Phase) → left_of f ≤ left_of (worked false f) + 1
worked_drop (pending n) = elim (cases_Bool (nat_le n 1)) [ inl y ↦ rw y (omega (arith, leb-true n 1 y)) | inr off ↦ rw off (omega arith) ]
worked_drop finished = omega arith
worked_drop late = omega arith

serve_drop : (o : Option Key) (on : Bool) (p : OpenTask) → left_of p.phase ≤ left_of (serve o on false p) + bit (on && hit o p)
serve_drop None on p = omega arith
serve_drop (Some k) on p = elim (cases_Bool (on && same k p.task)) [ inl y ↦ rw y (worked_drop p.phase) | inr off ↦ rw off (omega arith) ]

module _ (engines t : ℕ) (past : List (ℕ → Bool)) (clock_is : length past ≡ t) (slots : List Slot) (apart : Apart (λ s. s.job.number) slots) (keyed : AllByRecursion Keyed slots)
    (account : Account past slots) (on done : ℕ → Bool) (silent : (e : ℕ) → done e ≡ false) where
  -- no two open sub-tasks have one key, so what runs is the one that was ready
  hit_ready : (e : ℕ) (p : OpenTask) → Mem p (tasks_of slots) → hit (choices t slots e) p ≡ true → p.task.release ≤ t
  hit_ready e p m h = go (choices t slots e) refl h
    where
      go : (o : Option Key) → choices t slots e ≡ o → hit o p ≡ true → p.task.release ≤ t
      go None q h = absurd (false≢true h)
      go (Some c) q h =
          let n = next_some e t (tasks_of slots) c q in
          let it = unique (λ r. same c r.task) (tasks_of slots) (once_in_all c slots apart keyed) n.chosen p n.here m (same_self n.chosen.task c n.is_key) h in
          let (_, rest) = and_parts (is_pending n.chosen.phase) _ n.is_ready in
          let (_, out) = and_parts (n.chosen.task.engine == e) _ rest in
          rw (← it) (leb-true _ _ out)

  hits : (e : ℕ) → count_by (hit (choices t slots e)) (tasks_of slots) ≤ 1
  hits e = go (choices t slots e)
    where
      go : (o : Option Key) → count_by (hit o) (tasks_of slots) ≤ 1
      go None = omega (arith, count_none (hit None) (tasks_of slots) (all_from_mem _ (tasks_of slots) (λ _ _. refl)))
      go (Some c) = once_in_all c slots apart keyed

  -- of a window after x, what is left falls only by a tick that is served from x on
  kept : (e x y : ℕ) (p : OpenTask) → Mem p (tasks_of slots)
      → held e x y p ≤ held e x y (advance (choices t slots) on done p) + bit (ran t (choices t slots e) (on e) x p)
  kept e x y p m = elim (cases_Bool (lies e x y p)) [
    | inr off ↦ rw off (omega arith)
    | inl i ↦
        let o = choices t slots e in
        let (here, rest) = and_parts (p.task.engine == e) _ i in
        let (after, _) = and_parts (nat_le x p.task.release) _ rest in
        let at_e = eqb-true _ _ here in
        let f : serve (choices t slots p.task.engine) (on p.task.engine) (done p.task.engine) p ≡ serve o (on e) false p = rw (at_e, silent e) refl in
        let g : (nat_le x t && hit o p) ≡ hit o p = elim (cases_Bool (hit o p)) [
          | inl h ↦ and_from _ _ (le-leb x t (omega (arith, hit_ready e p m h, leb-true x p.task.release after))) h ∙ sym h
          | inr h ↦ and_right (nat_le x t) _ h ∙ sym h
        ] in
        let drop_by = serve_drop o (on e) p in
        rw i (omega (arith, ap left_of f, ap (λ b. bit (on e && b)) g))
  ]

  holds_flat : (e x y : ℕ) (ss : List Slot) → sum_by (holds e x y) ss ≡ sum_by (held e x y) (tasks_of ss)
  holds_flat e x y ss = sym (sum_flat (held e x y) (λ s. s.tasks) ss)

  holds_after : (e x y : ℕ) → sum_by (holds e x y) (run t on done slots) ≡ sum_by (λ p. held e x y (advance (choices t slots) on done p)) (tasks_of slots)
  holds_after e x y =
      let adv = advance (choices t slots) on done in
      holds_flat e x y (run t on done slots) ∙ (ap (sum_by (held e x y)) (tasks_each adv slots) ∙ sum_map (held e x y) adv (tasks_of slots))

  spent : (e x y : ℕ) → sum_by (holds e x y) slots ≤ sum_by (holds e x y) (run t on done slots) + sum_by (λ p. bit (ran t (choices t slots e) (on e) x p)) (tasks_of slots)
  spent e x y =
      let a = sum_two (λ p. Mem p (tasks_of slots)) (held e x y) (λ p. held e x y (advance (choices t slots) on done p)) (λ p. bit (ran t (choices t slots e) (on e) x p))
      (kept e x y) (tasks_of slots) (all_from_mem (λ p. Mem p (tasks_of slots)) (tasks_of slots) (λ p m. m)) in
      omega (arith, holds_flat e x y slots, holds_after e x y)

  asks_same : (e x y : ℕ) → sum_by (asks e x y) (run t on done slots) ≡ sum_by (asks e x y) slots
  asks_same e x y = sum_map (asks e x y) (each (advance (choices t slots) on done)) slots

  pub account_after : Account (past ++ (on ∷ [])) (run t on done slots)
  account_after = record {
    balanced = λ e x y. elim (cases_lt t x) [
      | inl far ↦
          let none = ap (served_ticks e) (drop_all x past (omega arith)) in
          let z = count_none (λ p. ran t (choices t slots e) (on e) x p) (tasks_of slots)
          (all_from_mem _ (tasks_of slots) (λ p _. and_right (on e) _ (and_left _ _ (lt-leb x t far)))) in
          omega (arith, account.balanced e x y, spent e x y, asks_same e x y)
      | inr near ↦
          let more = ap (served_ticks e) (drop-append-le x past (on ∷ []) (omega arith)) ∙ sum_by-append (λ (m : ℕ → Bool). bit (m e)) (drop x past) (on ∷ []) in
          elim (cases_Bool (on e)) [
            | inl is ↦
                let one : ◌≡◌ {A = ℕ} (bit (on e)) 1 = rw is refl in
                let few : sum_by (λ p. bit (ran t (choices t slots e) (on e) x p)) (tasks_of slots) ≤ 1 = rw (is, le-leb x t near) (hits e) in
                omega (arith, account.balanced e x y, spent e x y, asks_same e x y)
            | inr off ↦
                let one : ◌≡◌ {A = ℕ} (bit (on e)) 0 = rw off refl in
                let z = count_none (λ p. ran t (choices t slots e) (on e) x p) (tasks_of slots) (all_from_mem _ (tasks_of slots) (λ p _. and_left (on e) _ off)) in
                omega (arith, account.balanced e x y, spent e x y, asks_same e x y)
          ]
    ];
  }
