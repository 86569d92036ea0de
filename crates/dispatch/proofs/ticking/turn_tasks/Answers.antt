use Rattle.std.proofs.Common.{take, sym, ap, ◌∙◌, arith}
use Rattle.std.proofs.lemmas.List.Sums.{count_by_more_no, count_by_more_yes}
use Rattle.dispatch.specs.Ticking.{late_by, turned}
use Rattle.dispatch.proofs.Sweep.{sweep_on, unswept}
use Rattle.dispatch.proofs.ticking.turn_tasks.Goals as goal
use Rattle.dispatch.proofs.ticking.turn_tasks.Goals.{then-turn, else-turn}

pub loop-task-preserved : goal.loop-task-preserved
loop-task-preserved c =
    let k = c.args.tick.now in
    let j = c.args.job in
    let xs = take c.args.len c.args.tasks.now in
    let ys = c.loop-task.task-items in
    let i = c.loop-task.task-index in
    let x = c.task-item.result in
    let inv = c.loop-task.invariant in
    let was = ap (late_by k j) (unswept (turned k j) xs ys i inv.after c.loop-task-test.true x) in
    let told = c.turn.ensures.late ∙ was in
    record {
      after = sweep_on (turned k j) xs ys i inv.after c.loop-task-test.true x c.turn.new.self c.turn.ensures.after;
      late = elim c.if-turn.branch [
        | then-turn w ↦ omega (arith, w.late-is, inv.late, count_by_more_yes (late_by k j) xs i x c.loop-task-test.true (sym told ∙ w.if-turn.true))
        | else-turn w ↦ omega (arith, w.late-is, inv.late, count_by_more_no (late_by k j) xs i x c.loop-task-test.true (sym told ∙ w.if-turn.false))
      ];
      few = elim c.if-turn.branch [ then-turn w ↦ omega (arith, w.late-is, inv.few) | else-turn w ↦ omega (arith, w.late-is, inv.few) ];
    }
