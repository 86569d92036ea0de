use Rattle.std.proofs.Common.{◌≡◌, ◌-◌, length}
use Rattle.task.specs.Picks.{product, ways}
use Rattle.task.proofs.job.Job.numbers.Given as goal

abbrev pub invariant-loop-u : goal.invariant-loop-u
invariant-loop-u l = l.total ≡ product (ways l.numbering l.nodes) l.u (length l.nodes - l.u)
