use Rattle.std.proofs.Common.{take}
use Rattle.claim.proofs.Climbing.{Highest}
use Rattle.claim.proofs.claim.Claim.plateau.Given as goal

abbrev pub invariant-loop-cut : goal.invariant-loop-cut
invariant-loop-cut l = Highest l.self l.ticks (take l.cut-index l.cut-items) l.plateau
