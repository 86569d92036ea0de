use Rattle.std.proofs.Common.{◌≡◌, ℕ, ◌<◌, ◌≤◌, min, length, get_or}
use Rattle.claim.specs.Asking.{given}
use Rattle.fit.proofs.demands.go_on.Given as goal

abbrev pub invariant-loop-ticks : goal.invariant-loop-ticks
invariant-loop-ticks l = record {
  long : length l.most ≡ 28801;
  asked : (n : ℕ) → n < l.ticks → n ≤ 28800 → get_or l.most n 0 ≡ min (given l.claim n) 65535;
}
