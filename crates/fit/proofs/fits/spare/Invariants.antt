use Rattle.std.proofs.Common.{◌≡◌, ◌+◌, map, take}
use Rattle.fit.specs.Fits.{Kept, given_of_all}
use Rattle.fit.proofs.fits.spare.Given as goal

abbrev pub invariant-loop-place : goal.invariant-loop-place
invariant-loop-place l = record {
  spent : l.left + given_of_all (take l.place (map (λ c. c.now) l.claims)) l.ticks ≡ l.fn.served;
  kept : Kept (map (λ c. c.now) l.claims) l.kept;
}
