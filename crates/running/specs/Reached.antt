-- The sub-tasks that an arrival of a placed job reaches.
--   is_reached p row v    the node v is a sub-task of the concrete graph, and the row says that it is reached
--   reached_at r v        the sub-task at the node v of the resident r, as a run over lists has it
--   reached_of r row      those that the row says are reached
use Rattle.std.specs.Prelude.{ℕ, Bool, false, ◌&&◌, List, map, slice_index_or}
use Rattle.plan.specs.declared.plan.Plan.{Plan}
use Rattle.plan.specs.Part.{task_at}
use Rattle.plan.specs.Plan.{nodes_of}
use Rattle.resident.specs.declared.resident.Resident.{Resident}
use Rattle.runs.specs.Job.{SubTask}
use Rattle.seated.specs.Jobs.{reached_by, seat_of, sub_task}
use Rattle.task.specs.Graph.{at}
use Rattle.task.specs.Node.{is_sub_task}

abbrev pub is_reached : Plan → List Bool → ℕ → Bool
is_reached p row v = (slice_index_or p.members v false && is_sub_task (at (nodes_of p) v)) && slice_index_or row v false

abbrev pub reached_at : Resident → ℕ → SubTask
reached_at r v = sub_task r.plan (seat_of r) (task_at r.plan v)

abbrev pub reached_of : Resident → List Bool → List SubTask
reached_of r row = map (sub_task r.plan (seat_of r)) (reached_by r.plan row)
