use Rattle.std.proofs.Common.{arith, ◌<◌, length, zero-add, ap}
use Rattle.cyclic.specs.Ones.{mark, ones}
use Rattle.cyclic.specs.OnesLaws.{mark_one, ones_few, ones_more, ones_none}
use Rattle.engine.specs.Marks.{marked}
use Rattle.std.proofs.lemmas.List.Edits.{fill_by_more}
use Rattle.engine.proofs.sums.summed.Goals as goal

pub loop-k-init : goal.loop-k-init
loop-k-init c = record { sum = omega (arith, ones_none (marked c.args.round.now.marks) 0); below = λ j low. absurd (omega arith) }

pub overflow_add-sum : goal.overflow_add-sum
overflow_add-sum c =
    let marks = marked c.args.round.now.marks in
    omega (arith, ones_few marks 0 c.loop-k.k, mark_one marks c.loop-k.k)

pub loop-k-preserved : goal.loop-k-preserved
loop-k-preserved c =
    let marks = marked c.args.round.now.marks in
    let k = c.loop-k.k in
    let inv = c.loop-k.invariant in
    let inside : k < length c.loop-k.place-items = omega arith in
    record {
      sum = omega (arith, ones_more marks 0 k, ap (mark marks) (zero-add k), inv.sum, c.mark-sum.ensures);
      below = rw inv.sum (fill_by_more (ones marks 0) c.loop-k.place-items k 0 inside inv.below);
    }
