use Rattle.std.proofs.Common.{◌-◌, ◌≤◌, ◌<◌, ℕ, length, slice_index}
use Rattle.few.specs.Few.{items}
use Rattle.claim.proofs.claim.Claim.ended.Given as goal

abbrev pub invariant-loop-ended : goal.invariant-loop-ended
invariant-loop-ended l = record {
  few : l.ended ≤ length (items l.self.ends);
  passed : (i : ℕ) → i < l.ended → slice_index (items l.self.ends) i ≤ l.y;
}

abbrev pub decreases-loop-ended : goal.decreases-loop-ended
decreases-loop-ended l = length (items l.self.ends) - l.ended
