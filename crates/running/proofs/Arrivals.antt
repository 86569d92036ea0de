-- What an arrival does to what a board that runs keeps.
use Rattle.std.proofs.Common.{◌≡◌, ℕ, true, false, ◌==◌, nat_eq, nat_le, nat_lt, List, [], ◌∷◌, length, map, Option, Some, None, refl, sym, ap, subst, ◌∙◌, inl, inr, arith}
use Rattle.std.specs.List.{AllByRecursion, IsDistinct, list_any}
use Rattle.std.proofs.lemmas.Bool.{cases_Bool, eqb-false, eqb-true, ne_eqb}
use Rattle.std.proofs.lemmas.Map.Keys.{IsDistinct-head, IsDistinct-tail}
use Rattle.std.proofs.lemmas.Option.{none-some, same_Some}
use Rattle.board.specs.Residents.{resident_of}
use Rattle.dispatch.specs.declared.slot.Open.{Open}
use Rattle.dispatch.specs.declared.slot.Slot.{Slot as Declared}
use Rattle.dispatch.specs.declared.sub_task.SubTask.{SubTask as DeclaredTask}
use Rattle.dispatch.specs.Kept.{kept_arrivals, kept_slot, kept_task}
use Rattle.dispatch.specs.Opening.{opened_in, sub_task}
use Rattle.dispatch.specs.Slot.{tasks_in}
use Rattle.dispatch.specs.Table.{arrived_last, last_shown, newest, shown, slot_shown}
use Rattle.resident.specs.declared.resident.Resident.{Resident}
use Rattle.resident.specs.Resident.{number_of}
use Rattle.running.specs.Arriving.{free_from, slot_of}
use Rattle.running.specs.View.{with_job, with_jobs}
use Rattle.runs.specs.Events.{arrive_at, free_at, granted, opened}
use Rattle.runs.specs.Job.{branch_of, Job}
use Rattle.runs.specs.State.{Slot}
use Rattle.seated.specs.Jobs.{job_of, jobs_of}
use Rattle.theory.specs.Pattern.{Arrival}

-- a table's slots are what a board keeps
tasks_kept : (j : ℕ) (os : List Open) → map kept_task (map (shown j) os) ≡ map (shown j) os
tasks_kept j [] = refl
tasks_kept j (o ∷ os) = ap (λ l. shown j o ∷ l) (tasks_kept j os)

last_kept : (o : Option ℕ) → kept_arrivals (last_shown o) ≡ last_shown o
last_kept None = refl
last_kept (Some t) = refl

pub shown_kept : (ss : List Declared) → AllByRecursion (λ (s : Slot). kept_slot s ≡ s) (map slot_shown ss)
shown_kept [] = tt
shown_kept (s ∷ ss) = (λ i. record { job = (slot_shown s).job; arrivals = last_kept s.last i; tasks = tasks_kept s.job (tasks_in s) i }, shown_kept ss)

-- when a job may arrive again, by its last arrival
pub free_same : (j : Job) (came : List Arrival) → free_at j came ≡ free_from j.period (newest came)
free_same j [] = refl
free_same j (a ∷ older) = refl

abbrev pub number_at : Slot → ℕ
number_at s = s.job.number

first_same : (n m : ℕ) (ns ms : List ℕ) → n ∷ ns ≡ m ∷ ms → n ≡ m
first_same n m ns ms is = cc

rest_same : (n m : ℕ) (ns ms : List ℕ) → n ∷ ns ≡ m ∷ ms → ns ≡ ms
rest_same n m ns ms is = cc

module _ (n : ℕ) where
  -- no job has the number
  pub no_slot : (rs : List Resident) (ss : List Slot) → resident_of rs n ≡ None → slot_of n (with_jobs (jobs_of rs) ss) ≡ None
  no_slot [] ss none = refl
  no_slot (r ∷ rs) [] none = refl
  no_slot (r ∷ rs) (s ∷ ss) none = elim (cases_Bool (number_of r == n)) [
    | inl here ↦ absurd (none-some r (sym (rw here at none)))
    | inr other ↦ rw other (no_slot rs ss (rw other at none))
  ]

  -- the slot of the job with the number
  pub record Stands (r : Resident) (rs : List Resident) (ss : List Slot) : Type 0 where
    pub slot : Slot
    pub found : slot_of n (with_jobs (jobs_of rs) ss) ≡ Some slot
    pub job : slot.job ≡ job_of r
    pub last : newest slot.arrivals ≡ arrived_last n ss

  pub stands : (r : Resident) (rs : List Resident) (ss : List Slot) → map number_at ss ≡ map number_of rs → resident_of rs n ≡ Some r → Stands r rs ss
  stands r [] ss are is = absurd (none-some r is)
  stands r (q ∷ rs) [] are is = absurd (omega (arith, ap length are))
  stands r (q ∷ rs) (s ∷ ss) are is =
      let same = first_same (number_at s) (number_of q) (map number_at ss) (map number_of rs) are in
      let rest = rest_same (number_at s) (number_of q) (map number_at ss) (map number_of rs) are in
      elim (cases_Bool (number_of q == n)) [
        | inl here ↦
            let mine : (number_at s == n) ≡ true = ap (λ m. m == n) same ∙ here in
            record {
              slot = with_job (job_of q) s;
              found = rw here refl;
              job = ap job_of (same_Some q r (rw here at is));
              last = rw mine refl;
            }
        | inr other ↦
            let not_mine : (number_at s == n) ≡ false = ap (λ m. m == n) same ∙ other in
            let rec = stands r rs ss rest (rw other at is) in
            record { slot = rec.slot; found = rw other rec.found; job = rec.job; last = rw not_mine rec.last }
      ]

  -- an arrival of the job of this slot is granted
  pub slot_grants : (t b : ℕ) (s : Slot) (ss : List Slot) → slot_of n ss ≡ Some s → nat_lt b (length s.job.branches) ≡ true → nat_le (free_at s.job s.arrivals) t ≡ true → list_any (granted t n b) ss ≡ true
  slot_grants t b s [] found some free = absurd (none-some s found)
  slot_grants t b s (q ∷ ss) found some free = elim (cases_Bool (number_at q == n)) [
    | inl here ↦
        let same = same_Some q s (rw here at found) in
        let lies = ap (λ (x : Slot). nat_lt b (length x.job.branches)) same ∙ some in
        let late = ap (λ (x : Slot). nat_le (free_at x.job x.arrivals) t) same ∙ free in
        rw (here, lies, late) refl
    | inr other ↦ rw other (slot_grants t b s ss (rw other at found) some free)
  ]

  module _ (t b : ℕ) (ws : List DeclaredTask) where
    -- a slot of another job
    one_other : (j : Job) (s : Slot) → (j.number == n) ≡ false → (s.job.number == n) ≡ false → kept_slot s ≡ s → with_job j (opened_in n t ws s) ≡ kept_slot (arrive_at t n b (with_job j s))
    one_other j s other its same = rw (other, its) (sym (ap (with_job j) same))

    others : (rs : List Resident) (ss : List Slot) → map number_at ss ≡ map number_of rs → AllByRecursion (λ m. nat_eq n m ≡ false) (map number_of rs) → AllByRecursion (λ (s : Slot). kept_slot s ≡ s) ss
        → with_jobs (jobs_of rs) (map (opened_in n t ws) ss) ≡ map kept_slot (map (arrive_at t n b) (with_jobs (jobs_of rs) ss))
    others [] ss are none same = refl
    others (r ∷ rs) [] are none same = refl
    others (r ∷ rs) (s ∷ ss) are none same =
        let equal = first_same (number_at s) (number_of r) (map number_at ss) (map number_of rs) are in
        let rest = rest_same (number_at s) (number_of r) (map number_at ss) (map number_of rs) are in
        let other : (number_of r == n) ≡ false = ne_eqb (number_of r) n (λ is. eqb-false n (number_of r) none.0 (sym is)) in
        let its : (number_at s == n) ≡ false = ap (λ m. m == n) equal ∙ other in
        rw (one_other (job_of r) s other its same.0) (ap (λ l. kept_slot (arrive_at t n b (with_job (job_of r) s)) ∷ l) (others rs ss rest none.1 same.1))

    -- the slot of the job itself
    tasks_opened : (us : List DeclaredTask) → map (λ w. kept_task (opened n t (sub_task w))) us ≡ map kept_task (map (opened n t) (map sub_task us))
    tasks_opened [] = refl
    tasks_opened (u ∷ us) = ap (λ l. kept_task (opened n t (sub_task u)) ∷ l) (tasks_opened us)

    module _ (r : Resident) (opens : map sub_task ws ≡ branch_of (job_of r) b) (lies : nat_lt b (length (job_of r).branches) ≡ true) where
      one_arrives : (s : Slot) → (number_of r == n) ≡ true → (s.job.number == n) ≡ true → nat_le (free_from r.plan.job.period (newest s.arrivals)) t ≡ true
          → with_job (job_of r) (opened_in n t ws s) ≡ kept_slot (arrive_at t n b (with_job (job_of r) s))
      one_arrives s mine its free =
          let late : nat_le (free_at (job_of r) s.arrivals) t ≡ true = ap (λ k. nat_le k t) (free_same (job_of r) s.arrivals) ∙ free in
          let tasks : map (λ w. kept_task (opened n t (sub_task w))) ws ≡ map kept_task (map (opened (number_of r) t) (branch_of (job_of r) b)) =
          tasks_opened ws ∙ ap (λ m. map kept_task (map (opened m t) (map sub_task ws))) (sym (eqb-true (number_of r) n mine)) ∙ ap (λ us. map kept_task (map (opened (number_of r) t) us)) opens in
          rw (mine, its, lies, late) (λ i. record { job = job_of r; arrivals = record { time = t; branch = 0 } ∷ []; tasks = tasks i })

      pub arrives : (rs : List Resident) (ss : List Slot) → map number_at ss ≡ map number_of rs → resident_of rs n ≡ Some r → IsDistinct nat_eq (map number_of rs) → AllByRecursion (λ (s : Slot). kept_slot s ≡ s) ss
          → nat_le (free_from r.plan.job.period (arrived_last n ss)) t ≡ true
          → with_jobs (jobs_of rs) (map (opened_in n t ws) ss) ≡ map kept_slot (map (arrive_at t n b) (with_jobs (jobs_of rs) ss))
      arrives [] ss are is apart same free = refl
      arrives (q ∷ rs) [] are is apart same free = refl
      arrives (q ∷ rs) (s ∷ ss) are is apart same free =
          let equal = first_same (number_at s) (number_of q) (map number_at ss) (map number_of rs) are in
          let rest = rest_same (number_at s) (number_of q) (map number_at ss) (map number_of rs) are in
          elim (cases_Bool (number_of q == n)) [
            | inl here ↦
                let mine = same_Some q r (rw here at is) in
                let its : (number_at s == n) ≡ true = ap (λ m. m == n) equal ∙ here in
                let free_now : nat_le (free_from r.plan.job.period (newest s.arrivals)) t ≡ true = rw its at free in
                let none : AllByRecursion (λ m. nat_eq n m ≡ false) (map number_of rs) = subst (λ (k : ℕ). AllByRecursion (λ m. nat_eq k m ≡ false) (map number_of rs)) (eqb-true (number_of q) n here) (IsDistinct-head nat_eq (number_of q) (map number_of rs) apart) in
                let first : with_job (job_of q) (opened_in n t ws s) ≡ kept_slot (arrive_at t n b (with_job (job_of q) s)) =
                subst (λ (x : Resident). with_job (job_of x) (opened_in n t ws s) ≡ kept_slot (arrive_at t n b (with_job (job_of x) s))) (sym mine) (one_arrives s (ap (λ (x : Resident). number_of x == n) (sym mine) ∙ here) its free_now) in
                rw first (ap (λ l. kept_slot (arrive_at t n b (with_job (job_of q) s)) ∷ l) (others rs ss rest none same.1))
            | inr other ↦
                let its : (number_at s == n) ≡ false = ap (λ m. m == n) equal ∙ other in
                let free_later : nat_le (free_from r.plan.job.period (arrived_last n ss)) t ≡ true = rw its at free in
                rw (one_other (job_of q) s other its same.0) (ap (λ l. kept_slot (arrive_at t n b (with_job (job_of q) s)) ∷ l) (arrives rs ss rest (rw other at is) (IsDistinct-tail nat_eq (number_of q) (map number_of rs) apart) same.1 free_later))
          ]

-- an arrival leaves the jobs in their places
pub arrival_numbers : (n t : ℕ) (ws : List DeclaredTask) (ss : List Slot) → map number_at (map (opened_in n t ws) ss) ≡ map number_at ss
arrival_numbers n t ws [] = refl
arrival_numbers n t ws (s ∷ ss) = elim (cases_Bool (s.job.number == n)) [
  | inl here ↦ rw here (ap (λ l. number_at s ∷ l) (arrival_numbers n t ws ss))
  | inr other ↦ rw other (ap (λ l. number_at s ∷ l) (arrival_numbers n t ws ss))
]
