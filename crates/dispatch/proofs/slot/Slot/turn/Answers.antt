use Rattle.dispatch.proofs.Turning.{slot_same}
use Rattle.dispatch.proofs.slot.Slot.turn.Goals as goal

pub returns-clause-after : goal.returns-clause-after
returns-clause-after c = slot_same c.args.self.now _ _ _ c.turn_tasks.ensures.after
