-- Without reports of done, more asked from x to now than was served since x: something is late, whichever engine served what.
use Rattle.std.proofs.Common.{◌≡◌, ℕ, ◌+◌, ◌<◌, ◌≤◌, Bool, true, false, ◌==◌, nat_le, Option, List, [], ◌∷◌, ◌++◌, length, drop, sum_by, refl, sym, subst, inl, inr, append_assoc, append-nil, arith}
use Rattle.std.specs.List.{AllByRecursion}
use Rattle.std.proofs.lemmas.Bool.{and_right, cases_lt, lt-leb}
use Rattle.std.proofs.lemmas.List.{length_push}
use Rattle.runs.specs.Job.{Apart, Distinct, Job, Sound}
use Rattle.runs.specs.State.{each, OpenTask, Slot, State, tasks_of}
use Rattle.runs.specs.Next.{Key}
use Rattle.runs.specs.Events.{advance, arrive, arrive_at, choices, Event, overdue, play, run, start, step, tick}
use Rattle.runs.specs.Runs.{masks, Quiet, served_ticks}
use Rattle.runs.proofs.Lists.{all_both, all_map, all_weaker}
use Rattle.runs.proofs.Sums.{bit, sum_flat, sum_none, sum_shift, sum_zero}
use Rattle.runs.proofs.Tasks.{lies}
use Rattle.runs.proofs.Slots.{asks, Good, Timely, expire_same}
use Rattle.runs.proofs.Kept.{fresh, Kept, kept_arrive, kept_run, kept_start, none_at_start, timely_each}
use Rattle.runs.proofs.Keys.{apart_map, arrive_keyed, each_keyed, Keyed}
use Rattle.runs.proofs.Account.{Account, account_after, arrive_account, Covers, held, holds, nothing_held}

-- what holds while nothing was late, with the served masks so far
record Books (engines : ℕ) (jobs : List Job) (past : List (ℕ → Bool)) (st : State) : Type 0 where
  clock_is : length past ≡ st.clock
  kept : Kept engines jobs st.clock st.slots
  keyed : AllByRecursion Keyed st.slots
  account : Account past st.slots

books_arrive : (engines : ℕ) (jobs : List Job) (past : List (ℕ → Bool)) (st : State) (j b : ℕ) → Books engines jobs past st → Books engines jobs past (step st (arrive j b))
books_arrive engines jobs past st j b i =
    let t = st.clock in
    let slots = st.slots in
    record {
      clock_is = i.clock_is;
      kept = kept_arrive engines jobs t slots i.kept j b;
      keyed = all_map Keyed (arrive_at t j b) slots (all_weaker Keyed (λ s. Keyed (arrive_at t j b s)) (arrive_keyed engines t j b) slots i.keyed);
      account = record {
        balanced = λ e x y.
            let each_one = all_both (Good engines) (λ s. AllByRecursion (Timely t) s.tasks) (Covers e x y t j b) (arrive_account engines t j b e x y) slots i.kept.good (timely_each engines jobs t slots i.kept) in
            let k = sum_shift (Covers e x y t j b) (asks e x y) (holds e x y) (arrive_at t j b) (λ s h. h) slots each_one in
            omega (arith, i.account.balanced e x y);
      };
    }

-- what was late once stays counted
lates_grow : (st : State) (es : List Event) → st.lates ≤ (play st es).lates
lates_grow st [] = omega arith
lates_grow st (arrive j b ∷ es) = lates_grow (step st (arrive j b)) es
lates_grow st (tick on done ∷ es) = omega (arith, lates_grow (step st (tick on done)) es)

module _ (engines : ℕ) (jobs : List Job) (distinct : Distinct jobs) where
  books_tick : (past : List (ℕ → Bool)) (st : State) (on done : ℕ → Bool) → ((e : ℕ) → done e ≡ false) → (step st (tick on done)).lates ≡ 0
      → Books engines jobs past st → Books engines jobs (past ++ (on ∷ [])) (step st (tick on done))
  books_tick past st on done silent none i =
      let t = st.clock in
      let slots = run t on done st.slots in
      let choice : ℕ → Option Key = choices t st.slots in
      let keyed = all_map Keyed (each (advance choice on done)) st.slots (all_weaker Keyed (λ s. Keyed (each (advance choice on done) s)) (each_keyed choice on done) st.slots i.keyed) in
      let clock_is : length (past ++ (on ∷ [])) ≡ t + 1 = omega (arith, length_push past on, i.clock_is) in
      let apart = apart_map (λ (j : Job). j.number) (λ (s : Slot). s.job) st.slots (subst (Apart (λ j. j.number)) (sym i.kept.jobs_are) distinct.numbers) in
      let zero_each = sum_none (λ p. bit (overdue (t + 1) p)) (tasks_of slots) (omega arith) in
      let timely = all_weaker (λ p. bit (overdue (t + 1) p) ≡ 0) (Timely (t + 1)) (λ p z. off (overdue (t + 1) p) z) (tasks_of slots) zero_each in
      let half : State = record { clock = t + 1; slots = slots; lates = st.lates } in
      let books : Books engines jobs (past ++ (on ∷ [])) half = record {
        clock_is = clock_is;
        kept = kept_run engines jobs t st.slots i.kept on done timely;
        keyed = keyed;
        account = account_after engines t past i.clock_is st.slots apart i.keyed i.account on done silent;
      } in
      subst (Books engines jobs (past ++ (on ∷ []))) (sym (expire_same half timely)) books
    where
      off : (b : Bool) → bit b ≡ 0 → b ≡ false
      off true z = absurd (omega arith)
      off false z = refl

  through : (past : List (ℕ → Bool)) (st : State) (es : List Event) → Books engines jobs past st → AllByRecursion Quiet es → (play st es).lates ≡ 0
      → Books engines jobs (past ++ masks es) (play st es)
  through past st [] i quiet none = subst (λ ms. Books engines jobs ms st) (sym (append-nil past)) i
  through past st (arrive j b ∷ es) i quiet none = through past (step st (arrive j b)) es (books_arrive engines jobs past st j b i) quiet.1 none
  through past st (tick on done ∷ es) i quiet none =
      let now_none : (step st (tick on done)).lates ≡ 0 = omega (arith, lates_grow (step st (tick on done)) es) in
      subst (λ ms. Books engines jobs ms (play (step st (tick on done)) es)) (append_assoc past (on ∷ []) (masks es))
      (through (past ++ (on ∷ [])) (step st (tick on done)) es (books_tick past st on done quiet.0 now_none i) quiet.1 none)

books_start : (engines : ℕ) (jobs : List Job) → AllByRecursion (Sound engines) jobs → Distinct jobs → Books engines jobs [] (start jobs)
books_start engines jobs sound distinct = record {
  clock_is = refl;
  kept = kept_start engines jobs sound;
  keyed = all_map Keyed fresh jobs
      (all_weaker (λ j. AllByRecursion (Apart (λ w. w.node)) j.branches) (λ j. Keyed (fresh j)) (λ j h. record { own = tt; once = λ _. omega arith; nodes = h }) jobs distinct.nodes);
  account = record { balanced = λ e x y. omega (arith, none_at_start (asks e x y) (λ _. refl) jobs) };
}

-- what the arrivals so far ask of the engine e between x and y
abbrev pub asked_so_far : (e x y : ℕ) → State → ℕ
asked_so_far e x y st = sum_by (asks e x y) st.slots

pub overload_is_late :
    (engines : ℕ) (jobs : List Job) (es : List Event) → AllByRecursion (Sound engines) jobs → Distinct jobs → AllByRecursion Quiet es
    → (e x : ℕ) → served_ticks e (drop x (masks es)) < asked_so_far e x (play (start jobs) es).clock (play (start jobs) es)
    → 1 ≤ (play (start jobs) es).lates
overload_is_late engines jobs es sound distinct quiet e x over = elim (cases_lt 0 ((play (start jobs) es).lates)) [
  | inl l ↦ l
  | inr none ↦
      let st = play (start jobs) es in
      let i = through engines jobs distinct [] (start jobs) es (books_start engines jobs sound distinct) quiet (omega arith) in
      let empty = sum_zero (held e x st.clock) (tasks_of st.slots) (all_weaker (Timely st.clock) (λ p. held e x st.clock p ≡ 0) (by_now e x st.clock) (tasks_of st.slots) i.kept.timely) in
      absurd (omega (arith, i.account.balanced e x st.clock, sum_flat (held e x st.clock) (λ s. s.tasks) st.slots))
]
  where
    by_now : (e x t : ℕ) (p : OpenTask) → Timely t p → held e x t p ≡ 0
    by_now e x t p h = elim (cases_lt t p.task.due) [
      | inr l ↦ nothing_held e x t t p h l
      | inl l ↦ let z : nat_le p.task.due t ≡ false = lt-leb _ _ l in
          let i : lies e x t p ≡ false = and_right (p.task.engine == e) _ (and_right (nat_le x p.task.release) _ z) in
          rw i refl
    ]
