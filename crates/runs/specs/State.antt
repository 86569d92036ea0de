-- Where a board stands that runs: a slot for each job, with the sub-tasks that its last arrival opened.
--   Phase               where an open sub-task stands: so many ticks are pending, or it is finished, or late
--   Task                a sub-task of an arrival, with its window on the board's clock
--   OpenTask            one with its phase
--   Slot                a job, its arrivals so far, the newest first, and the sub-tasks that the last of them opened
--   State               the clock, the slots, and how many sub-tasks were late so far
--   in_phase p f        the open sub-task p, now in the phase f
--   each f s            the slot s with f done to every open sub-task
--   tasks_of slots      all open sub-tasks, slot by slot
--   is_pending f, is_late f    tests of a phase
--   left_of f           the ticks that are pending
use Rattle.std.specs.Prelude.{ℕ, Bool, true, false, List, map, flat_map}
use Rattle.runs.specs.Job.{Job}
use Rattle.theory.specs.Pattern.{Arrival}

pub data Phase : Type 0 where
  pending : ℕ → Phase
  finished : Phase
  late : Phase

pub record Task : Type 0 where
  pub job : ℕ
  pub node : ℕ
  pub engine : ℕ
  pub release : ℕ
  pub due : ℕ
  pub ticks : ℕ

pub record OpenTask : Type 0 where
  pub task : Task
  pub phase : Phase

pub record Slot : Type 0 where
  pub job : Job
  pub arrivals : List Arrival
  pub tasks : List OpenTask

pub record State : Type 0 where
  pub clock : ℕ
  pub slots : List Slot
  pub lates : ℕ

abbrev pub in_phase : OpenTask → Phase → OpenTask
in_phase p f = record { task = p.task; phase = f }

abbrev pub each : (OpenTask → OpenTask) → Slot → Slot
each f s = record { job = s.job; arrivals = s.arrivals; tasks = map f s.tasks }

abbrev pub tasks_of : List Slot → List OpenTask
tasks_of slots = flat_map (λ s. s.tasks) slots

abbrev pub is_pending : Phase → Bool
is_pending (pending n) = true
is_pending finished = false
is_pending late = false

abbrev pub is_late : Phase → Bool
is_late (pending n) = false
is_late finished = false
is_late late = true

abbrev pub left_of : Phase → ℕ
left_of (pending n) = n
left_of finished = 0
left_of late = 0
