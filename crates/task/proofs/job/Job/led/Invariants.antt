use Rattle.std.proofs.Common.{◌≡◌, ℕ, ◌<◌, ◌≤◌, false, length, get_or, Decides}
use Rattle.task.specs.Concrete.{Led}
use Rattle.task.specs.Tables.{leads}
use Rattle.task.proofs.job.Job.led.Given as goal

abbrev pub invariant-loop-v : goal.invariant-loop-v
invariant-loop-v l =
    (length l.members ≡ 24)
    × ((v : ℕ) → v < l.v → Decides (get_or l.members v false) (Led l.nodes (leads l.edges) v))
    × ((v : ℕ) → l.v ≤ v → get_or l.members v false ≡ false)
