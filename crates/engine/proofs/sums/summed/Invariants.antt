use Rattle.std.proofs.Common.{◌≡◌, ℕ, ◌<◌, get_or}
use Rattle.cyclic.specs.Ones.{ones}
use Rattle.engine.specs.Marks.{marked}
use Rattle.engine.proofs.sums.summed.Given as goal

abbrev pub invariant-loop-k : goal.invariant-loop-k
invariant-loop-k l = record {
  sum : l.sum ≡ ones (marked l.round.marks) 0 l.k;
  below : (j : ℕ) → j < l.k → get_or l.place-items j 0 ≡ ones (marked l.round.marks) 0 j;
}
