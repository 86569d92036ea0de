use Rattle.std.proofs.Common.{◌≡◌, ℕ, ◌<◌, ◌≤◌, min, length, get_or}
use Rattle.claim.specs.Asking.{given}
use Rattle.claim.specs.Plateau.{Level}
use Rattle.fit.proofs.demands.ask_below.Given as goal

abbrev pub invariant-loop-ticks : goal.invariant-loop-ticks
invariant-loop-ticks l = record {
  long : length l.most ≡ 28801;
  asked : (n : ℕ) → l.ticks ≤ n → n < l.end → get_or l.most n 0 ≡ min (given l.claim n) 65535;
  kept : Level (given l.claim) l.kept;
}
