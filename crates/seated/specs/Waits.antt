-- What a sub-task waits for.
--   WaitsFor p v u          in the concrete graph of the plan p a path of kept edges leads from the sub-task u to the sub-task v
--   InOrder rs st           in the state st of a run of the residents rs, what is ready waits for nothing of its arrival that is still open
use Rattle.std.specs.Prelude.{◌≡◌, ℕ, ◌<◌, true, List, Some, slice_get}
use Rattle.plan.specs.declared.plan.Plan.{Plan}
use Rattle.plan.specs.Plan.{nodes_of}
use Rattle.resident.specs.declared.resident.Resident.{Resident}
use Rattle.runs.specs.Next.{ready}
use Rattle.runs.specs.State.{finished, OpenTask, Slot, State}
use Rattle.window.specs.Path.{Path, work}

abbrev pub WaitsFor : Plan → ℕ → ℕ → Type 0
WaitsFor p v u = (u < v) × ((s : ℕ) × Path (nodes_of p) p.choice (work (nodes_of p)) u v s)

abbrev pub InOrder : List Resident → State → Type 0
InOrder rs st =
    (i e : ℕ) (r : Resident) (s : Slot) → slice_get rs i ≡ Some r → slice_get st.slots i ≡ Some s
    → (k l : ℕ) (q o : OpenTask) → slice_get s.tasks k ≡ Some q → slice_get s.tasks l ≡ Some o
    → ready e st.clock q ≡ true → WaitsFor r.plan q.task.node o.task.node → o.phase ≡ finished
