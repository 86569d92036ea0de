use Rattle.std.proofs.Common.{◌≡◌, ◌++◌, drop, map, take}
use Rattle.dispatch.specs.Opening.{replaced}
use Rattle.dispatch.proofs.opening.replace.Given as goal

abbrev pub invariant-loop-slot : goal.invariant-loop-slot
invariant-loop-slot l = l.slots ≡ map (replaced l.fresh) (take l.slot-index l.initial.slots) ++ drop l.slot-index l.initial.slots
