use Rattle.std.proofs.Common.{◌≡◌, ℕ, ◌-◌, ◌*◌, ◌<◌, ◌≤◌, length, get_or}
use Rattle.task.specs.Tables.{leads}
use Rattle.window.specs.Recurrences.{Settled}
use Rattle.window.proofs.lengths.longest_from.Given as goal

abbrev pub invariant-loop-v : goal.invariant-loop-v
invariant-loop-v l =
    (length l.from ≡ 24)
    × ((w : ℕ) → l.v ≤ w → w < 24 → Settled (λ x u. leads l.edges u x) l.weights l.from w)
    × ((w : ℕ) → get_or l.from w 0 ≤ 14400 * (24 - w))
