use Rattle.std.proofs.Common.{sym, ◌∙◌}
use Rattle.rehearsal.proofs.Masks.{served_next, served_same}
use Rattle.rehearsal.proofs.calls.least_tick.Goals as goal
use Rattle.rehearsal.proofs.calls.least_tick.Goals.{then-is_needed, else-is_needed}

pub loop-engine-preserved : goal.loop-engine-preserved
loop-engine-preserved c =
    elim c.if-is_needed.branch [
      | then-is_needed w ↦ w.served-is ∙ served_next c.loop-engine.engine c.loop-engine.served _ c.loop-engine-test.true c.loop-engine.invariant (sym w.if-is_needed.ensures)
      | else-is_needed w ↦ w.served-is ∙ served_same c.loop-engine.engine c.loop-engine.served _ c.loop-engine.invariant (sym w.if-is_needed.ensures)
    ]
