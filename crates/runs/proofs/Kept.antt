-- What every board keeps while nothing is overdue: its jobs, and what holds of their slots.
use Rattle.std.proofs.Common.{◌≡◌, ℕ, ◌+◌, Bool, List, [], map, sum_by, refl, ◌∙◌, map-id, arith}
use Rattle.std.specs.List.{AllByRecursion}
use Rattle.runs.specs.Job.{Job, Sound}
use Rattle.runs.specs.State.{each, Slot, tasks_of}
use Rattle.runs.specs.Events.{advance, arrive_at, choices, run, start}
use Rattle.runs.proofs.Lists.{all_both, all_flat, all_from_mem, all_map, all_unflat, all_weaker, map_again, map_map}
use Rattle.runs.proofs.Sums.{sum_map, sum_zero}
use Rattle.runs.proofs.Slots.{arrive_good, arrive_job, arrive_timely, each_good, Good, Timely}

pub record Kept (engines : ℕ) (jobs : List Job) (t : ℕ) (slots : List Slot) : Type 0 where
  pub jobs_are : map (λ s. s.job) slots ≡ jobs
  pub good : AllByRecursion (Good engines) slots
  pub timely : AllByRecursion (Timely t) (tasks_of slots)

module _ (engines : ℕ) (jobs : List Job) (t : ℕ) (slots : List Slot) (kept : Kept engines jobs t slots) where
  pub timely_each : AllByRecursion (λ s. AllByRecursion (Timely t) s.tasks) slots
  timely_each = all_unflat (Timely t) (λ s. s.tasks) slots kept.timely

  pub kept_arrive : (j b : ℕ) → Kept engines jobs t (map (arrive_at t j b) slots)
  kept_arrive j b = record {
    jobs_are = map_again (λ s. s.job) (arrive_at t j b) (arrive_job engines t j b) slots ∙ kept.jobs_are;
    good = all_map (Good engines) (arrive_at t j b) slots (all_weaker (Good engines) (λ s. Good engines (arrive_at t j b s)) (arrive_good engines t j b) slots kept.good);
    timely = all_flat (Timely t) (λ s. s.tasks) (map (arrive_at t j b) slots)
        (all_map (λ s. AllByRecursion (Timely t) s.tasks) (arrive_at t j b) slots
        (all_both (Good engines) (λ s. AllByRecursion (Timely t) s.tasks) (λ s. AllByRecursion (Timely t) (arrive_at t j b s).tasks) (arrive_timely engines t j b) slots kept.good timely_each));
  }

  pub run_good : (on done : ℕ → Bool) → AllByRecursion (Good engines) (run t on done slots)
  run_good on done =
      let adv = advance (choices t slots) on done in
      all_map (Good engines) (each adv) slots
      (all_weaker (Good engines) (λ s. Good engines (each adv s)) (each_good engines (choices t slots) on done) slots kept.good)

  pub run_jobs : (on done : ℕ → Bool) → map (λ s. s.job) (run t on done slots) ≡ jobs
  run_jobs on done = map_again (λ (s : Slot). s.job) (each (advance (choices t slots) on done)) (λ _. refl) slots ∙ kept.jobs_are

  -- after the work of a tick, if nothing is overdue then
  pub kept_run : (on done : ℕ → Bool) → AllByRecursion (Timely (t + 1)) (tasks_of (run t on done slots)) → Kept engines jobs (t + 1) (run t on done slots)
  kept_run on done timely = record { jobs_are = run_jobs on done; good = run_good on done; timely = timely }

abbrev pub fresh : Job → Slot
fresh j = record { job = j; arrivals = []; tasks = [] }

pub kept_start : (engines : ℕ) (jobs : List Job) → AllByRecursion (Sound engines) jobs → Kept engines jobs 0 (start jobs).slots
kept_start engines jobs sound = record {
  jobs_are = map_map (λ (s : Slot). s.job) fresh jobs ∙ map-id jobs;
  good = all_map (Good engines) fresh jobs
      (all_weaker (Sound engines) (λ j. Good engines (fresh j)) (λ j s. record { sound = s; legal = tt; covered = λ _ _ _. omega arith; alive = tt; placed = tt; over = tt }) jobs sound);
  timely = all_flat (Timely 0) (λ s. s.tasks) (map fresh jobs) (all_map (λ s. AllByRecursion (Timely 0) s.tasks) fresh jobs (all_from_mem _ jobs (λ _ _. tt)));
}

pub none_at_start : (f : Slot → ℕ) → ((j : Job) → f (fresh j) ≡ 0) → (jobs : List Job) → sum_by f (start jobs).slots ≡ 0
none_at_start f h jobs = sum_map f fresh jobs ∙ sum_zero (λ j. f (fresh j)) jobs (all_from_mem _ jobs (λ j _. h j))
