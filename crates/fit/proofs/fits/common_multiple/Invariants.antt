use Rattle.std.proofs.Common.{map, take}
use Rattle.fit.proofs.Multiples.{SharedBy}
use Rattle.fit.proofs.fits.common_multiple.Given as goal

abbrev pub invariant-loop-claim : goal.invariant-loop-claim
invariant-loop-claim l = SharedBy (take l.claim-index (map (λ c. c.now) l.claims)) l.shared
