use Rattle.std.proofs.Common.{length}
use Rattle.text.proofs.Gathering.{Gathered}
use Rattle.text.proofs.value.list.Given as goal

abbrev pub invariant-loop-part : goal.invariant-loop-part
invariant-loop-part l = Gathered l.fn.bytes (length l.yielded) l.numbers
