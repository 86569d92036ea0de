-- The open sub-tasks of a board that runs, as the state of a run over lists. What the board does not keep stands as nothing: of a job the rest beside its number, of its arrivals the older ones and the branches, and the ticks that a sub-task began with.
--   numbered n          the job with the number n
--   last_shown o        the last arrival, if there was one
--   shown j o           the open sub-task o of the job with the number j
--   slot_shown s        a slot
--   slots_in b          the slots of the table b
--   tasks_open b        all open sub-tasks of the table b, slot by slot
--   state_of b          its state
--   newest came         when the newest of the arrivals came
--   arrived_last n ss   when the first of the slots ss that is of the job with the number n has had its last arrival
use Rattle.std.specs.Prelude.{ℕ, cond, ◌==◌, List, [], ◌∷◌, map, take, Option, Some, None}
use Rattle.dispatch.specs.declared.slot.Open.{Open}
use Rattle.dispatch.specs.declared.slot.Slot.{Slot}
use Rattle.dispatch.specs.declared.table.Table.{Table}
use Rattle.dispatch.specs.Phase.{meaning}
use Rattle.dispatch.specs.Slot.{tasks_in}
use Rattle.runs.specs.Job.{Job}
use Rattle.runs.specs.State.{OpenTask, Slot as ModelSlot, State, tasks_of}
use Rattle.theory.specs.Pattern.{Arrival}

abbrev pub numbered : ℕ → Job
numbered n = record { number = n; period = 0; deadline = 0; branches = [] }

abbrev pub last_shown : Option ℕ → List Arrival
last_shown None = []
last_shown (Some t) = record { time = t; branch = 0 } ∷ []

abbrev pub shown : ℕ → Open → OpenTask
shown j o = record {
  task = record { job = j; node = o.node; engine = o.engine; release = o.release; due = o.due; ticks = 0 };
  phase = meaning o.phase;
}

abbrev pub slot_shown : Slot → ModelSlot
slot_shown s = record { job = numbered s.job; arrivals = last_shown s.last; tasks = map (shown s.job) (tasks_in s) }

abbrev pub slots_in : Table → List Slot
slots_in b = take b.len b.slots

abbrev pub tasks_open : Table → List OpenTask
tasks_open b = tasks_of (map slot_shown (slots_in b))

abbrev pub state_of : Table → State
state_of b = record { clock = b.clock; slots = map slot_shown (slots_in b); lates = b.late_total }

abbrev pub newest : List Arrival → Option ℕ
newest [] = None
newest (a ∷ older) = Some a.time

abbrev pub arrived_last : ℕ → List ModelSlot → Option ℕ
arrived_last n [] = None
arrived_last n (s ∷ ss) = cond (s.job.number == n) (newest s.arrivals) (arrived_last n ss)
