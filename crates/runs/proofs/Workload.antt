-- The workload invariant, through a tick.
use Rattle.std.proofs.Common.{◌≡◌, ℕ, ◌+◌, ◌≤◌, Bool, true, false, cond, ◌&&◌, ◌==◌, nat_le, Option, Some, None, List, [], ◌∷◌, ◌++◌, length, drop, sum_by, refl, ap, ◌∙◌, inl, inr, arith}
use Rattle.std.specs.List.{AllByRecursion}
use Rattle.std.proofs.lemmas.Bool.{and_parts, both_ways, cases_Bool, eqb-true, leb-true}
use Rattle.std.proofs.lemmas.List.{drop-append-le, drop_all, length_push}
use Rattle.std.proofs.lemmas.List.Sums.{sum_by-append}
use Rattle.runs.specs.State.{each, is_pending, OpenTask, Slot, tasks_of}
use Rattle.runs.specs.Next.{Key, key_of, next, NotAfter, ready}
use Rattle.runs.specs.Events.{advance, choices, run}
use Rattle.runs.specs.Runs.{served_ticks}
use Rattle.runs.proofs.Lists.{all_both, all_mem, Mem, pick}
use Rattle.runs.proofs.Sums.{sum_flat, sum_le, sum_le_each, sum_lt, sum_map}
use Rattle.runs.proofs.Tasks.{advance_le, advance_lt, idle_le, owed, same_self, wanted}
use Rattle.runs.proofs.Choice.{next_none, next_some}
use Rattle.runs.proofs.Slots.{Alive, all_alive, asks, Good, owes, owes_flat, tasks_each}

-- for every engine and every d there is a time x from which on the work asked for covers the work owed and the ticks served
pub record Workload (past : List (ℕ → Bool)) (t : ℕ) (slots : List Slot) : Type 0 where
  pub since : (e d : ℕ) → (x : ℕ) × (x ≤ t) × (sum_by (owes e d) slots + served_ticks e (drop x past) ≤ sum_by (asks e x d) slots)

module _ (engines t : ℕ) (past : List (ℕ → Bool)) (clock_is : length past ≡ t) (slots : List Slot) (good : AllByRecursion (Good engines) slots)
    (work : Workload past t slots) (on done : ℕ → Bool) where
  -- the choice of each engine, and what it does
  owes_after : (e d : ℕ) → sum_by (owes e d) (run t on done slots) ≡ sum_by (λ p. owed e d (advance (choices t slots) on done p)) (tasks_of slots)
  owes_after e d =
      let adv = advance (choices t slots) on done in
      owes_flat e d (run t on done slots) ∙ (ap (sum_by (owed e d)) (tasks_each adv slots) ∙ sum_map (owed e d) adv (tasks_of slots))

  asks_after : (e x d : ℕ) → sum_by (asks e x d) (run t on done slots) ≡ sum_by (asks e x d) slots
  asks_after e x d = sum_map (asks e x d) (each (advance (choices t slots) on done)) slots

  owes_less : (e d : ℕ) → sum_by (owes e d) (run t on done slots) ≤ sum_by (owes e d) slots
  owes_less e d =
      let flat = tasks_of slots in
      let a = sum_le_each (λ p. owed e d (advance (choices t slots) on done p)) (owed e d) (advance_le e d (choices t slots) on done) flat in
      omega (arith, owes_after e d, owes_flat e d slots)

  -- nothing with a due up to d is ready: what is owed by then is asked for from the next tick on
  rests : (e d : ℕ) → AllByRecursion (λ p. (ready e t p && nat_le p.task.due d) ≡ false) (tasks_of slots) → sum_by (owes e d) slots ≤ sum_by (asks e (t + 1) d) slots
  rests e d quiet =
      let flat = tasks_of slots in
      let a = sum_le (λ p. owed e d p ≤ wanted e (t + 1) d p) (owed e d) (wanted e (t + 1) d) (λ p h. h) flat
      (all_both Alive (λ p. (ready e t p && nat_le p.task.due d) ≡ false) (λ p. owed e d p ≤ wanted e (t + 1) d p) (idle_le e t d) flat (all_alive engines slots good) quiet) in
      let b = sum_le (Good engines) (λ s. sum_by (wanted e (t + 1) d) s.tasks) (asks e (t + 1) d) (λ s g. g.covered e (t + 1) d) slots good in
      omega (arith, owes_flat e d slots, sum_flat (wanted e (t + 1) d) (λ s. s.tasks) slots)

  -- something is: a served engine runs one with a due up to d
  runs : (e d : ℕ) (p : OpenTask) → Mem p (tasks_of slots) → (ready e t p && nat_le p.task.due d) ≡ true → on e ≡ true
      → sum_by (owes e d) (run t on done slots) + 1 ≤ sum_by (owes e d) slots
  runs e d p m r served = go (next e t (tasks_of slots)) refl
    where
      go : (o : Option Key) → next e t (tasks_of slots) ≡ o → sum_by (owes e d) (run t on done slots) + 1 ≤ sum_by (owes e d) slots
      go None q = absurd (both_ways _ (all_mem (λ p. ready e t p ≡ false) (tasks_of slots) p m (next_none e t (tasks_of slots) q)) (and_parts _ _ r).0)
      go (Some c) q =
          let n = next_some e t (tasks_of slots) c q in
          let first = (all_mem (λ p. ready e t p ≡ true → NotAfter c (key_of p.task)) (tasks_of slots) p m n.first (and_parts _ _ r).0).due in
          let last : p.task.due ≤ d = leb-true _ _ (and_parts (ready e t p) _ r).1 in
          let (pend, rest) = and_parts (is_pending n.chosen.phase) _ n.is_ready in
          let (here, _) = and_parts (n.chosen.task.engine == e) _ rest in
          let some = (all_mem Alive (tasks_of slots) n.chosen n.here (all_alive engines slots good)).some_left pend in
          let a = sum_lt (λ p. owed e d (advance (choices t slots) on done p)) (owed e d)
          (advance_le e d (choices t slots) on done) (tasks_of slots) n.chosen n.here
          (advance_lt e d (choices t slots) on done n.chosen c (eqb-true _ _ here) q (same_self n.chosen.task c n.is_key) served some (omega (arith, ap (λ v. v.due) n.is_key))) in
          omega (arith, owes_after e d, owes_flat e d slots)

  pub workload_after : Workload (past ++ (on ∷ [])) (t + 1) (run t on done slots)
  workload_after = record {
    since = λ e d. elim (pick (λ p. ready e t p && nat_le p.task.due d) (tasks_of slots)) [
      | inr quiet ↦
          let no_ticks = ap (served_ticks e) (drop_all (t + 1) (past ++ (on ∷ [])) (omega (arith, length_push past on))) in
          (t + 1, omega arith, omega (arith, owes_less e d, rests e d quiet, asks_after e (t + 1) d))
      | inl f ↦
          let (x, l, h) = work.since e d in
          let more = ap (served_ticks e) (drop-append-le x past (on ∷ []) (omega arith)) ∙ sum_by-append (λ (m : ℕ → Bool). cond (m e) 1 0) (drop x past) (on ∷ []) in (
            x,
            omega arith,
            elim (cases_Bool (on e)) [
              | inl y ↦ let one : ◌≡◌ {A = ℕ} (cond (on e) 1 0) 1 = rw y refl in omega (arith, asks_after e x d, runs e d f.0 f.1 f.2 y)
              | inr off ↦ let one : ◌≡◌ {A = ℕ} (cond (on e) 1 0) 0 = rw off refl in omega (arith, asks_after e x d, owes_less e d)
            ],
          )
    ];
  }
