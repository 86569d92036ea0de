-- The sheet of a placed job.
--   tag_of n          the tag of the sub-task n
--   engine_at r v     the engine that the sub-task at the node v sits on: that of the part of its tag
--   has_line r v      the node v is a sub-task of the concrete graph
--   line_at r v       the line of the sub-task at the node v
--   line_of r t       the bytes of the line of the sub-task t
--   sheet_of r        the sheet of r: its number and choice, and a line for each sub-task of the concrete graph, by rising node
use Rattle.std.specs.Prelude.{ℕ, Bool, false, ◌&&◌, List, ◌++◌, flat_map, unwrap_or, slice_index_or}
use Rattle.plan.specs.declared.part.Task.{Task}
use Rattle.plan.specs.Part.{tasks_where}
use Rattle.plan.specs.Plan.{nodes_of}
use Rattle.resident.specs.declared.resident.Resident.{Resident}
use Rattle.resident.specs.Resident.{engine_of, number_of}
use Rattle.sheet.specs.declared.lines.NodeLine.{NodeLine}
use Rattle.sheet.specs.Lines.{node_line, title}
use Rattle.task.specs.declared.node.Node.{Node}
use Rattle.task.specs.declared.node.Node.TheVariants.{SubTask, Alternative, Conditional}
use Rattle.task.specs.Graph.{at}
use Rattle.task.specs.Node.{is_sub_task}
use Rattle.window.specs.Windows.{closed}

abbrev pub tag_of : Node → ℕ
tag_of (SubTask tag ticks nodes) = tag
tag_of (Alternative nodes) = 0
tag_of (Conditional nodes) = 0

-- every sub-task's part sits on an engine, so the 0 never shows
abbrev pub engine_at : Resident → ℕ → ℕ
engine_at r v = unwrap_or (engine_of r (tag_of (at (nodes_of r.plan) v))) 0

abbrev pub has_line : Resident → ℕ → Bool
has_line r v = slice_index_or r.plan.members v false && is_sub_task (at (nodes_of r.plan) v)

abbrev pub line_at : Resident → ℕ → NodeLine
line_at r v = record { node = v; engine = engine_at r v; window = slice_index_or r.plan.windows v closed }

abbrev pub line_of : Resident → Task → List ℕ
line_of r t = node_line t.node (engine_at r t.node) t.window.offset t.window.deadline

abbrev pub sheet_of : Resident → List ℕ
sheet_of r = title (number_of r) r.plan.choice ++ flat_map (line_of r) (tasks_where r.plan is_sub_task)
