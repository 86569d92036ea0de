use Rattle.std.proofs.Common.{take, get_or, ap, arith}
use Rattle.std.proofs.lemmas.List.{length-take}
use Rattle.std.proofs.lemmas.List.Sums.{count_by-le-length, sum_by_more}
use Rattle.dispatch.specs.Slot.{tasks_in}
use Rattle.dispatch.specs.Ticking.{late_by, slot_late, slot_turned}
use Rattle.dispatch.proofs.Sweep.{sweep_on, unswept}
use Rattle.dispatch.proofs.ticking.turn_slots.Goals as goal

pub loop-slot-preserved : goal.loop-slot-preserved
loop-slot-preserved c =
    let k = c.args.tick.now in
    let xs = take c.args.len c.args.slots.now in
    let ys = c.loop-slot.slot-items in
    let i = c.loop-slot.slot-index in
    let x = c.slot-item.result in
    let inv = c.loop-slot.invariant in
    let y = get_or ys i x in
    let was = ap (slot_late k) (unswept (slot_turned k) xs ys i inv.after c.loop-slot-test.true x) in
    let told = c.turn-late.ensures.late in
    record {
      after = sweep_on (slot_turned k) xs ys i inv.after c.loop-slot-test.true x c.turn-late.new.self c.turn-late.ensures.after;
      late = omega (arith, inv.late, told, was, sum_by_more (slot_late k) xs i x c.loop-slot-test.true);
      few = omega (arith, inv.few, told, count_by-le-length (late_by k y.job) (tasks_in y), length-take y.len y.tasks, y.few);
    }
