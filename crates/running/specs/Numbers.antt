-- The jobs that a state has slots for.
--   numbers_in st    their numbers, slot by slot
use Rattle.std.specs.Prelude.{ℕ, List, map}
use Rattle.runs.specs.State.{Slot, State}

abbrev pub numbers_in : State → List ℕ
numbers_in st = map (λ (s : Slot). s.job.number) st.slots
