use Rattle.std.proofs.Common.{◌≤◌, ◌<◌, List, map, ℕ}
use Rattle.fit.specs.Fits.{Kept}
use Rattle.fit.specs.Stated.{Stated}
use Rattle.theory.specs.Demand.{demand_of_all}
use Rattle.theory.specs.Pattern.{Pattern}
use Rattle.fit.proofs.fits.shortage.Given as goal

abbrev pub invariant-loop : goal.invariant-loop
invariant-loop g l = record {
  within : l.ticks ≤ l.farthest;
  passed : (ps : List Pattern) → Stated ps (map (λ c. c.now) l.claims) → (n : ℕ) → l.ticks < n → n ≤ l.farthest → demand_of_all ps n ≤ g.P.Supply.supply l.platform l.engine n;
  kept : Kept (map (λ c. c.now) l.claims) l.kept;
}
