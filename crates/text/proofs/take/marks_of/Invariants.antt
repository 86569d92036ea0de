use Rattle.std.proofs.Common.{◌≡◌, take}
use Rattle.few.specs.Few.{items}
use Rattle.text.proofs.Marking.{ones}
use Rattle.text.proofs.take.marks_of.Given as goal

abbrev pub invariant-loop-byte : goal.invariant-loop-byte
invariant-loop-byte l = items l.served ≡ ones (take l.byte-index l.bytes)
