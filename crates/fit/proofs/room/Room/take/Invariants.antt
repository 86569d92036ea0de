use Rattle.std.proofs.Common.{◌≡◌, ℕ, ◌-◌, ◌<◌, ◌≤◌, length, get_or}
use Rattle.fit.proofs.room.Room.take.Given as goal

abbrev pub invariant-loop-ticks : goal.invariant-loop-ticks
invariant-loop-ticks l = record {
  long : length l.self.too_much ≡ 28801;
  taken : (n : ℕ) → n < l.ticks → n ≤ 28800 → get_or l.self.too_much n 0 ≡ get_or l.fn.self.too_much n 0 - get_or l.demands.most n 0;
  left : (n : ℕ) → l.ticks ≤ n → get_or l.self.too_much n 0 ≡ get_or l.fn.self.too_much n 0;
}
