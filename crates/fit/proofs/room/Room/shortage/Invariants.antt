use Rattle.std.proofs.Common.{ℕ, ◌<◌, get_or}
use Rattle.fit.proofs.room.Room.shortage.Given as goal

abbrev pub invariant-loop-ticks : goal.invariant-loop-ticks
invariant-loop-ticks l = (n : ℕ) → n < l.ticks → get_or l.demands.most n 0 < get_or l.self.too_much n 0
