use Rattle.std.proofs.Common.{◌∙◌}
use Rattle.engine.specs.Marks.{marked}
use Rattle.engine.proofs.Marking.{mark_is}
use Rattle.engine.proofs.round.Round.mark.Goals as goal

pub returns : goal.returns
returns c = c.from.ensures ∙ mark_is (marked c.args.self.now.marks) c.deref.result.now c.len.result c.args.place c.deref.ensures.0 c.len.ensures
