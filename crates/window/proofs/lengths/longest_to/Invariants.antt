use Rattle.std.proofs.Common.{◌≡◌, ℕ, ◌+◌, ◌*◌, ◌<◌, ◌≤◌, length, get_or}
use Rattle.task.specs.Tables.{leads}
use Rattle.window.specs.Recurrences.{Settled}
use Rattle.window.proofs.lengths.longest_to.Given as goal

abbrev pub invariant-loop-v : goal.invariant-loop-v
invariant-loop-v l =
    (length l.to ≡ 24)
    × ((w : ℕ) → w < l.v → Settled (leads l.edges) l.weights l.to w)
    × ((w : ℕ) → get_or l.to w 0 ≤ 14400 * (w + 1))
