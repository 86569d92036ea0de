-- Nothing is ever late.
use Rattle.std.proofs.Common.{◌≡◌, ℕ, zero, suc, ◌+◌, ◌-◌, ◌<◌, ◌≤◌, Bool, true, false, true≢false, ◌&&◌, ◌==◌, nat_le, List, [], ◌∷◌, ◌++◌, map, reverse, length, take, drop, sum_by, refl, sym, ap, ◌∙◌, subst, inl, inr, append_assoc, length-append, length-drop, take_at, arith}
use Rattle.std.specs.List.{AllByRecursion}
use Rattle.std.proofs.lemmas.Bool.{and_from, and_parts, both_ways, cases_Bool, eq-eqb, le-leb, leb-true}
use Rattle.std.proofs.lemmas.List.{drop-append-le, length_push}
use Rattle.theory.specs.Demand.{demand}
use Rattle.theory.proofs.Trains.{demand_is_greatest}
use Rattle.runs.specs.Job.{AllFit, asked, Job, pattern_on, Sound}
use Rattle.runs.specs.State.{finished, is_late, is_pending, late, left_of, OpenTask, pending, Phase, Slot, State, tasks_of}
use Rattle.runs.specs.Events.{arrive, arrive_at, Event, free_at, overdue, play, run, start, step, tick}
use Rattle.runs.specs.Runs.{masks, OnTime, served_ticks, Supplied}
use Rattle.runs.specs.Theorems.{NeverLate}
use Rattle.runs.proofs.Lists.{all_both, all_from_mem, all_mem, all_weaker}
use Rattle.runs.proofs.Sums.{sum_le, sum_map, sum_none, sum_shift}
use Rattle.runs.proofs.Tasks.{owed}
use Rattle.runs.proofs.Arrivals.{demand_reverse, legal_arrivals, well_formed}
use Rattle.runs.proofs.Slots.{Alive, all_alive, all_placed, arrive_work, asks, expire_same, Good, Over, owes, owes_flat, Placed, Timely}
use Rattle.runs.proofs.Kept.{Kept, kept_arrive, kept_run, kept_start, none_at_start, run_good, run_jobs, timely_each}
use Rattle.runs.proofs.Workload.{Workload, workload_after}

-- what holds after every event, with the served masks so far
record Inv (engines : ℕ) (jobs : List Job) (past : List (ℕ → Bool)) (st : State) : Type 0 where
  clock_is : length past ≡ st.clock
  none : st.lates ≡ 0
  kept : Kept engines jobs st.clock st.slots
  work : Workload past st.clock st.slots

inv_arrive : (engines : ℕ) (jobs : List Job) (past : List (ℕ → Bool)) (st : State) (j b : ℕ) → Inv engines jobs past st → Inv engines jobs past (step st (arrive j b))
inv_arrive engines jobs past st j b i =
    let t = st.clock in
    record {
      clock_is = i.clock_is;
      none = i.none;
      kept = kept_arrive engines jobs t st.slots i.kept j b;
      work = record {
        since = λ e d.
            let (x, l, h) = i.work.since e d in
            let k = sum_shift (Good engines) (owes e d) (asks e x d) (arrive_at t j b) (arrive_work engines t j b e x d l) st.slots i.kept.good in
            (x, l, omega arith);
      };
    }

-- the arrivals of a slot ask no more than any arrivals may
asks_most : {engines : ℕ} (s : Slot) → Good engines s → (e x n y : ℕ) → x + n ≡ y → asks e x y s ≤ demand (pattern_on e s.job) n
asks_most {engines} s g e x n y there =
    let p = pattern_on e s.job in
    let bound = (demand_is_greatest p (well_formed engines e s.job g.sound) n).bound (reverse s.arrivals) x (legal_arrivals e s.job s.arrivals g.legal) in
    omega (arith, demand_reverse e s.job s.arrivals x (x + n), ap (λ z. asks e x z s) there)

module _ (engines : ℕ) (supply : ℕ → ℕ → ℕ) (jobs : List Job) (fits : AllFit engines supply jobs) where
  -- whatever is due by now is done by now
  settled : (past rest : List (ℕ → Bool)) (t : ℕ) (slots : List Slot) → length past ≡ t → map (λ s. s.job) slots ≡ jobs → AllByRecursion (Good engines) slots
      → Workload past t slots → Supplied engines supply (past ++ rest) → (e : ℕ) → e < engines → sum_by (owes e t) slots ≡ 0
  settled past rest t slots clock_is jobs_are good work served e known =
      let (x, l, h) = work.since e t in
      let n = t - x in
      let there : x + n ≡ t = omega arith in
      let most = sum_le (Good engines) (asks e x t) (λ s. demand (pattern_on e s.job) n) (λ s g. asks_most s g e x n t there) slots good in
      let a = fits e known n in
      let b = ap (λ js. asked e js n) jobs_are in
      let all = sum_map (λ p. demand p n) (pattern_on e) (map (λ (s : Slot). s.job) slots) in
      let each_one = sum_map (λ j. demand (pattern_on e j) n) (λ (s : Slot). s.job) slots in
      let c = served e x n known (omega (arith, length-append past rest)) in
      let cut : take n (drop x (past ++ rest)) ≡ drop x past
      = ap (take n) (drop-append-le x past rest (omega arith)) ∙ take_at (drop x past) rest n (length-drop x past ∙ ap (λ k. k - x) clock_is) in
      let f = ap (served_ticks e) cut in
      omega arith

  timely_from : (t : ℕ) (p : OpenTask) → Alive p → owed p.task.engine t p ≡ 0 → Timely t p
  timely_from t p a z = elim (cases_Bool (overdue t p)) [
    | inr off ↦ off
    | inl y ↦
        let (pend, due) = and_parts (is_pending p.phase) _ y in
        let here : ((p.task.engine == p.task.engine) && nat_le p.task.due t) ≡ true = and_from _ _ (eq-eqb p.task.engine p.task.engine refl) due in
        let k : left_of p.phase ≡ 0 = rw here at z in
        absurd (omega (arith, a.some_left pend))
  ]

  all_timely : (t : ℕ) (slots : List Slot) → AllByRecursion (Good engines) slots → ((e : ℕ) → e < engines → sum_by (owes e t) slots ≡ 0) → AllByRecursion (Timely t) (tasks_of slots)
  all_timely t slots good none = all_from_mem (Timely t) (tasks_of slots) (λ p m.
      let e = p.task.engine in
      let known = all_mem (Placed engines) (tasks_of slots) p m (all_placed engines slots good) in
      let z = sum_none (owed e t) (tasks_of slots) (sym (owes_flat e t slots) ∙ none e known) in
      timely_from t p (all_mem Alive (tasks_of slots) p m (all_alive engines slots good)) (all_mem (λ q. owed e t q ≡ 0) (tasks_of slots) p m z))

module _ (engines : ℕ) (supply : ℕ → ℕ → ℕ) (jobs : List Job) (fits : AllFit engines supply jobs) where
  inv_tick : (past rest : List (ℕ → Bool)) (st : State) (on done : ℕ → Bool) → Supplied engines supply ((past ++ (on ∷ [])) ++ rest) → Inv engines jobs past st
      → Inv engines jobs (past ++ (on ∷ [])) (step st (tick on done))
  inv_tick past rest st on done served i =
      let t = st.clock in
      let slots = run t on done st.slots in
      let clock_is : length (past ++ (on ∷ [])) ≡ t + 1 = omega (arith, length_push past on, i.clock_is) in
      let good = run_good engines jobs t st.slots i.kept on done in
      let work = workload_after engines t past i.clock_is st.slots i.kept.good i.work on done in
      let timely = all_timely engines supply jobs fits (t + 1) slots good
      (settled engines supply jobs fits (past ++ (on ∷ [])) rest (t + 1) slots clock_is (run_jobs engines jobs t st.slots i.kept on done) good work served) in
      let half : State = record { clock = t + 1; slots = slots; lates = st.lates } in
      let inv : Inv engines jobs (past ++ (on ∷ [])) half = record { clock_is = clock_is; none = i.none; kept = kept_run engines jobs t st.slots i.kept on done timely; work = work } in
      subst (Inv engines jobs (past ++ (on ∷ []))) (sym (expire_same half timely)) inv

  on_time : (past : List (ℕ → Bool)) (st : State) → Inv engines jobs past st → OnTime st
  on_time past st i = record {
    none_counted = i.none;
    none_late = all_weaker Alive (λ p. is_late p.phase ≡ false) (λ p a. a.not_late) (tasks_of st.slots) alive;
    due_finished = closed;
    in_order = λ e. all_from_mem _ (tasks_of st.slots) (λ q _ r.
        let out : q.task.release ≤ st.clock = leb-true _ _ (and_parts (q.task.engine == e) _ (and_parts (is_pending q.phase) _ r).1).1 in
        all_weaker (λ p. p.task.due ≤ st.clock → p.phase ≡ finished) (λ p. p.task.due ≤ q.task.release → p.phase ≡ finished) (λ p h l. h (omega arith)) (tasks_of st.slots) closed);
    free_when_finished = all_both (Good engines) (λ s. AllByRecursion (Timely st.clock) s.tasks) (λ s. free_at s.job s.arrivals ≤ st.clock → AllByRecursion (λ p. p.phase ≡ finished) s.tasks)
        (λ s g a l. all_both (Both (free_at s.job s.arrivals)) (Timely st.clock) (λ p. p.phase ≡ finished)
        (λ p b c. go p.phase refl b.0.not_late c (le-leb _ _ (omega (arith, b.1)))) s.tasks
        (all_both Alive (Over (free_at s.job s.arrivals)) (Both (free_at s.job s.arrivals)) (λ p b c. (b, c)) s.tasks g.alive g.over) a)
        st.slots i.kept.good (timely_each engines jobs st.clock st.slots i.kept);
  }
    where
      Both : ℕ → OpenTask → Type 0
      Both n p = Alive p × Over n p

      alive : AllByRecursion Alive (tasks_of st.slots)
      alive = all_alive engines st.slots i.kept.good

      go : {d : Bool} (f : Phase) → {g : Phase} → g ≡ f → is_late g ≡ false → (is_pending g && d) ≡ false → d ≡ true → g ≡ finished
      go {d} (pending n) {g} q a b l = absurd (both_ways d (let z : (is_pending (pending n) && d) ≡ false = rw q at b in z) l)
      go finished q a b l = q
      go late {g} q a b l = absurd (true≢false (let z : is_late late ≡ false = rw q at a in z))

      closed : AllByRecursion (λ p. p.task.due ≤ st.clock → p.phase ≡ finished) (tasks_of st.slots)
      closed = all_both Alive (Timely st.clock) (λ p. p.task.due ≤ st.clock → p.phase ≡ finished) (λ p a b l. go p.phase refl a.not_late b (le-leb _ _ l)) (tasks_of st.slots) alive i.kept.timely

  through : (past : List (ℕ → Bool)) (st : State) (es : List Event) → Inv engines jobs past st → Supplied engines supply (past ++ masks es)
      → (n : ℕ) → OnTime (play st (take n es))
  through past st es i served zero = on_time past st i
  through past st [] i served (suc n) = on_time past st i
  through past st (arrive j b ∷ es) i served (suc n) = through past (step st (arrive j b)) es (inv_arrive engines jobs past st j b i) served n
  through past st (tick on done ∷ es) i served (suc n) =
      let again = subst (Supplied engines supply) (sym (append_assoc past (on ∷ []) (masks es))) served in
      through (past ++ (on ∷ [])) (step st (tick on done)) es (inv_tick past (masks es) st on done again i) again n

inv_start : (engines : ℕ) (jobs : List Job) → AllByRecursion (Sound engines) jobs → Inv engines jobs [] (start jobs)
inv_start engines jobs sound = record {
  clock_is = refl;
  none = refl;
  kept = kept_start engines jobs sound;
  work = record { since = λ e d. (0, omega arith, omega (arith, none_at_start (owes e d) (λ _. refl) jobs)) };
}

pub never_late : NeverLate
never_late engines supply jobs es sound fits served = through engines supply jobs fits [] (start jobs) es (inv_start engines jobs sound) served
