use Rattle.std.proofs.Common.{◌≡◌, ◌++◌, take}
use Rattle.dispatch.specs.Choosing.{ready_of}
use Rattle.few.specs.Few.{items}
use Rattle.dispatch.proofs.slot.Slot.gather.Given as goal

abbrev pub invariant-loop-task : goal.invariant-loop-task
invariant-loop-task l = items l.found ≡ items l.fn.found ++ ready_of l.engine l.self.job (take l.task-index l.task-items)
