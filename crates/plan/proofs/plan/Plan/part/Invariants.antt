use Rattle.std.proofs.Common.{◌≡◌, ℕ, ◌≤◌, false, ◌&&◌, map, length, get_or}
use Rattle.few.specs.Few.{items}
use Rattle.plan.specs.declared.part.Task.{Task}
use Rattle.plan.specs.Part.{tasks_below, tagged}
use Rattle.plan.specs.Plan.{nodes_of}
use Rattle.task.specs.Graph.{at}
use Rattle.plan.proofs.plan.Plan.part.Given as goal

abbrev pub invariant-loop-v : goal.invariant-loop-v
invariant-loop-v l =
    (length (items l.tasks) ≤ l.v)
    × (items l.tasks ≡ tasks_below l.self (λ v. get_or l.self.members v false && tagged l.tag (at (nodes_of l.self) v)) l.v)
    × ((k : ℕ) → get_or (map (λ (t : Task). t.ticks) (items l.tasks)) k 0 ≤ 14400)
