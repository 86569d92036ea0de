-- What a board that runs keeps of the state of its run: the jobs in full, of the arrivals of each the last one without its branch, and of an open sub-task all but the ticks that it began with.
--   with_job j s         the slot s, of the job j
--   with_jobs js ss      the slots ss, of the jobs js in their order
--   of_jobs js st        the state st with such slots
--   view b               what the board b keeps
use Rattle.std.specs.Prelude.{List, [], ◌∷◌}
use Rattle.board.specs.Residents.{jobs}
use Rattle.dispatch.specs.Table.{state_of}
use Rattle.running.specs.declared.running.Running.{Running}
use Rattle.runs.specs.Job.{Job}
use Rattle.runs.specs.State.{Slot, State}
use Rattle.seated.specs.Jobs.{jobs_of}

abbrev pub with_job : Job → Slot → Slot
with_job j s = record { job = j; arrivals = s.arrivals; tasks = s.tasks }

abbrev pub with_jobs : List Job → List Slot → List Slot
with_jobs [] ss = []
with_jobs (j ∷ js) [] = []
with_jobs (j ∷ js) (s ∷ ss) = with_job j s ∷ with_jobs js ss

abbrev pub of_jobs : List Job → State → State
of_jobs js st = record { clock = st.clock; slots = with_jobs js st.slots; lates = st.lates }

abbrev pub view : {P R O : Type 0} → Running P R O → State
view b = of_jobs (jobs_of (jobs b.board.residents)) (state_of b.table)
