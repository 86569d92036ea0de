use Rattle.std.proofs.Common.{take}
use Rattle.std.specs.List.{AllZip}
use Rattle.few.specs.Few.{items}
use Rattle.claim.specs.Making.{CutOf}
use Rattle.plan.specs.Part.{tasks_in}
use Rattle.claim.proofs.making.cuts.Given as goal

abbrev pub invariant-loop-task : goal.invariant-loop-task
invariant-loop-task l = AllZip (λ t k. CutOf (tasks_in l.part) l.rows l.ends t.window.offset k) (take l.task-index l.task-items) (items l.cuts)
