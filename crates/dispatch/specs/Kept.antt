-- What a board keeps of the state of a run over lists: of a slot's arrivals the newest alone, without its branch, and of an open sub-task all but the ticks that it began with. The rest stands as nothing.
--   kept_task p          the open sub-task p
--   kept_arrivals came   the arrivals, the newest first
--   kept_slot s          the slot s
--   kept st              the state st
use Rattle.std.specs.Prelude.{List, [], ◌∷◌, map}
use Rattle.runs.specs.State.{OpenTask, Slot, State}
use Rattle.theory.specs.Pattern.{Arrival}

abbrev pub kept_task : OpenTask → OpenTask
kept_task p = record { task = record p.task { ticks = 0 }; phase = p.phase }

abbrev pub kept_arrivals : List Arrival → List Arrival
kept_arrivals [] = []
kept_arrivals (a ∷ older) = record { time = a.time; branch = 0 } ∷ []

abbrev pub kept_slot : Slot → Slot
kept_slot s = record { job = s.job; arrivals = kept_arrivals s.arrivals; tasks = map kept_task s.tasks }

abbrev pub kept : State → State
kept st = record { clock = st.clock; slots = map kept_slot st.slots; lates = st.lates }
