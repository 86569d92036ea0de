-- What sub-tasks of a plan ask of the engine that they sit on.
--   window_of t            the window and the work of the sub-task t
--   branch_of ts row       the windows of those of the sub-tasks ts that the row says are reached
--   pattern_of p ts        how the sub-tasks ts of the plan p ask for work: the period and deadline of its job, and the windows that each branch number reaches
--   part_pattern p g       the same for the part of the tag g
use Rattle.std.specs.Prelude.{ℕ, Bool, false, List, map, filter, slice_index_or}
use Rattle.plan.specs.declared.part.Task.{Task}
use Rattle.plan.specs.declared.plan.Plan.{Plan}
use Rattle.plan.specs.Part.{part_of}
use Rattle.plan.specs.Plan.{reached_rows}
use Rattle.theory.specs.Pattern.{Pattern, Window}

abbrev pub window_of : Task → Window
window_of t = record { offset = t.window.offset; deadline = t.window.deadline; ticks = t.ticks }

abbrev pub branch_of : List Task → List Bool → List Window
branch_of ts row = map window_of (filter (λ (t : Task). slice_index_or row t.node false) ts)

abbrev pub pattern_of : Plan → List Task → Pattern
pattern_of p ts = record {
  period = p.job.period;
  deadline = p.job.deadline;
  branches = map (λ (row : List Bool). branch_of ts row) (reached_rows p);
}

abbrev pub part_pattern : Plan → ℕ → Pattern
part_pattern p g = pattern_of p (part_of p g)
