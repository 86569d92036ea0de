use Rattle.std.proofs.Common.{◌≡◌, ℕ, ◌-◌, ◌/◌, ◌<◌, ◌≤◌, length, get_or}
use Rattle.task.specs.Picks.{product, ways, pick}
use Rattle.task.proofs.job.Job.ranks.Given as goal

abbrev pub invariant-loop-u : goal.invariant-loop-u
invariant-loop-u l =
    (length l.ranks ≡ 24)
    × (l.rest ≡ l.number / product (ways l.numbering l.nodes) l.u (length l.nodes - l.u))
    × ((w : ℕ) → l.u ≤ w → w < length l.nodes → get_or l.ranks w 0 ≡ pick l.numbering l.nodes l.number w)
