use Rattle.std.proofs.Common.{◌≡◌, ◌≤◌, length, map}
use Rattle.dispatch.specs.Opening.{sub_task}
use Rattle.few.specs.Few.{items}
use Rattle.running.proofs.Reaching.{reached_below}
use Rattle.running.proofs.reached.reached.Given as goal

abbrev pub invariant-loop-v : goal.invariant-loop-v
invariant-loop-v l = record {
  few : length (items l.tasks) ≤ l.v;
  are : map sub_task (items l.tasks) ≡ reached_below l.resident l.row l.v;
}
