use Rattle.std.proofs.Common.{◌≡◌, ℕ, ◌<◌, [], length, get_or}
use Rattle.few.specs.Few.{items}
use Rattle.task.specs.Concrete.{Reached}
use Rattle.task.specs.Flaws.{graph}
use Rattle.task.specs.Tables.{Tells}
use Rattle.plan.proofs.plans.reached_by_branch.Given as goal

abbrev pub invariant-loop-branch : goal.invariant-loop-branch
invariant-loop-branch l =
    (length (items l.rows) ≡ l.branch)
    × ((b : ℕ) → b < l.branch → Tells (Reached (graph l.job) l.choice b) (get_or (items l.rows) b []))
