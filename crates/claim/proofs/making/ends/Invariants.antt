use Rattle.std.proofs.Common.{◌≡◌, map, take}
use Rattle.few.specs.Few.{items}
use Rattle.claim.proofs.Stairs.{end_of}
use Rattle.claim.proofs.making.ends.Given as goal

abbrev pub invariant-loop-task : goal.invariant-loop-task
invariant-loop-task l = items l.ends ≡ map end_of (take l.task-index l.task-items)
