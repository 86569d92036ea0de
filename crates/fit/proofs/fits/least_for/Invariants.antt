use Rattle.std.proofs.Common.{◌-◌, ◌≤◌, ◌<◌, ℕ}
use Rattle.fit.proofs.fits.least_for.Given as goal

abbrev pub invariant-loop-low : goal.invariant-loop-low
invariant-loop-low g l = record {
  ordered : l.low ≤ l.high;
  within : l.high ≤ 28800;
  enough : l.asked ≤ g.P.Supply.supply l.platform l.engine l.high;
  below : (k : ℕ) → k < l.low → g.P.Supply.supply l.platform l.engine k < l.asked;
}

abbrev pub decreases-loop-low : goal.decreases-loop-low
decreases-loop-low g l = l.high - l.low
