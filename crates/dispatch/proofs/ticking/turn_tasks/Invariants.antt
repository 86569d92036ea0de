use Rattle.std.proofs.Common.{◌≡◌, ◌≤◌, ◌++◌, count_by, drop, map, take}
use Rattle.dispatch.specs.Ticking.{late_by, turned}
use Rattle.dispatch.proofs.ticking.turn_tasks.Given as goal

abbrev pub invariant-loop-task : goal.invariant-loop-task
invariant-loop-task l = record {
  after : l.task-items ≡ map (turned l.tick l.job) (take l.task-index l.initial.task-items) ++ drop l.task-index l.initial.task-items;
  late : l.late ≡ count_by (late_by l.tick l.job) (take l.task-index l.initial.task-items);
  few : l.late ≤ l.task-index;
}
