use Rattle.std.proofs.Common.{[], ap}
use Rattle.text.specs.Value.{word}
use Rattle.task.specs.declared.node.Node.TheVariants.{SubTask, Alternative, Conditional}
use Rattle.text.proofs.Passing.{passed_on}
use Rattle.text.proofs.Following.{took_value, stops_here, stops_next}
use Rattle.text.proofs.lines.Lines.node.Goals as goal

pub returns-in_err-kind : goal.returns-in_err-kind
returns-in_err-kind c =
    passed_on _ _ _ _ c.from_residual.ensures.1 ((SubTask 0 1 [], stops_here c.in_err-kind.ensures))

pub returns-in_err-tag-in-SubTask : goal.returns-in_err-tag-in-SubTask
returns-in_err-tag-in-SubTask c =
    passed_on _ _ _ _ c.from_residual-in_err-tag-in-SubTask.ensures.1 ((SubTask 0 1 [], stops_next (took_value (ap word c.in-SubTask.is) c.in_ok-kind.ensures) (stops_here c.in_err-tag-in-SubTask.ensures)))

pub returns-in_err-ticks-in-SubTask : goal.returns-in_err-ticks-in-SubTask
returns-in_err-ticks-in-SubTask c =
    passed_on _ _ _ _ c.from_residual-in_err-ticks-in-SubTask.ensures.1 ((SubTask c.in_ok-tag-in-SubTask.tag 1 [], stops_next (took_value (ap word c.in-SubTask.is) c.in_ok-kind.ensures) (stops_next c.in_ok-tag-in-SubTask.ensures.0 (stops_here c.in_err-ticks-in-SubTask.ensures))))

pub returns-in_err-after-in-SubTask : goal.returns-in_err-after-in-SubTask
returns-in_err-after-in-SubTask c =
    passed_on _ _ _ _ c.from_residual-in_err-after-in-SubTask.ensures.1 ((SubTask c.in_ok-tag-in-SubTask.tag c.in_ok-ticks-in-SubTask.ticks [], stops_next (took_value (ap word c.in-SubTask.is) c.in_ok-kind.ensures) (stops_next c.in_ok-tag-in-SubTask.ensures.0 (stops_next c.in_ok-ticks-in-SubTask.ensures.0 (stops_here c.in_err-after-in-SubTask.ensures)))))

pub returns-in_err-after-in-Alternative : goal.returns-in_err-after-in-Alternative
returns-in_err-after-in-Alternative c =
    passed_on _ _ _ _ c.from_residual-in_err-after-in-Alternative.ensures.1 ((Alternative [], stops_next (took_value (ap word c.in-Alternative.is) c.in_ok-kind.ensures) (stops_here c.in_err-after-in-Alternative.ensures)))

pub returns-in_err-after-in-Conditional : goal.returns-in_err-after-in-Conditional
returns-in_err-after-in-Conditional c =
    passed_on _ _ _ _ c.from_residual-in_err-after-in-Conditional.ensures.1 ((Conditional [], stops_next (took_value (ap word c.in-Conditional.is) c.in_ok-kind.ensures) (stops_here c.in_err-after-in-Conditional.ensures)))
