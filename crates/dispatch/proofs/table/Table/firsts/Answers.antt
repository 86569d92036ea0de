use Rattle.std.proofs.Common.{None, take, ap, sym, ◌∙◌}
use Rattle.std.proofs.lemmas.List.{take_all}
use Rattle.dispatch.specs.Choosing.{all_candidates, soonest}
use Rattle.dispatch.specs.Table.{slots_in}
use Rattle.dispatch.proofs.Gathering.{first_in_all, soonest_first}
use Rattle.dispatch.proofs.table.Table.firsts.Goals as goal

pub returns : goal.returns
returns c = λ e below.
    let b = c.args.self.now in
    c.loop-slot.invariant e below
    ∙ (ap (λ ss. soonest None (all_candidates e ss)) (take_all c.loop-slot.slot-index (take b.len b.slots) c.loop-slot-test.false)
    ∙ (soonest_first None (all_candidates e (slots_in b)) ∙ sym (first_in_all e b.clock None (slots_in b) b.in_time)))
