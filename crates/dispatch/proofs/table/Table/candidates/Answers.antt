use Rattle.std.proofs.Common.{◌++◌, [], length, take, sym, ap, ◌∙◌, length-append, arith}
use Rattle.std.proofs.lemmas.List.{flat_map_more, length-take, take_all}
use Rattle.dispatch.specs.Choosing.{all_candidates, candidates}
use Rattle.dispatch.specs.Slot.{tasks_in}
use Rattle.few.specs.Few.{items}
use Rattle.dispatch.proofs.Gathering.{ready_few, take_next}
use Rattle.dispatch.proofs.table.Table.candidates.Goals as goal

pub gather-requires : goal.gather-requires
gather-requires c =
    let b = c.args.self.now in
    omega (arith, c.loop-slot.invariant.few, length-take b.len b.slots, c.loop-slot-test.true, b.few)

pub loop-slot-preserved : goal.loop-slot-preserved
loop-slot-preserved c =
    let b = c.args.self.now in
    let ss = take b.len b.slots in
    let i = c.loop-slot.slot-index in
    let e = c.args.engine in
    let s = c.slot-item.result in
    let put = c.gather.ensures in
    record {
      found = put ∙ (ap (λ l. l ++ candidates e s) c.loop-slot.invariant.found ∙ (flat_map_more (candidates e) [] (take i ss) s ∙ ap (all_candidates e) (sym (take_next ss i s c.loop-slot-test.true c.slot-item.is))));
      few = omega (arith, ap length put, length-append (items c.loop-slot.found) (candidates e s), c.loop-slot.invariant.few, ready_few e s.job (tasks_in s), length-take s.len s.tasks, s.few);
    }

pub returns : goal.returns
returns c =
    let b = c.args.self.now in
    c.loop-slot.invariant.found ∙ ap (all_candidates c.args.engine) (take_all c.loop-slot.slot-index (take b.len b.slots) c.loop-slot-test.false)
