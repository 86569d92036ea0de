use Rattle.std.proofs.Common.{sym, ◌∙◌, ap, arith}
use Rattle.std.specs.Ordering.{is_lt}
use Rattle.order.proofs.Firsts.{least_from_best, takes, keeps, alone}
use Rattle.order.proofs.least.least.Goals as goal
use Rattle.order.proofs.least.least.Goals.{then-i-gt0+then-is_lt, else-i-gt0, else-i-gt0-via-then-i-gt0+else-is_lt, else-i-gt0-via-else-i-gt0}

pub loop-i-preserved : goal.loop-i-preserved
loop-i-preserved g c =
    let inv = c.loop-i.invariant in
    elim c.if-i-gt0.branch [
      | then-i-gt0+then-is_lt w ↦ record {
        some = inv.some;
        start = λ z. absurd (omega arith);
        best = λ _. rw w.best-is (takes g.met.T.Ord.total _ _ _ _ _ inv.start inv.best c.loop-i-test.true c.index-items-i.is w.index-items-best.is (sym (w.is_lt.ensures ∙ ap is_lt w.cmp.ensures) ∙ w.if-is_lt.true));
      }
      | else-i-gt0 w ↦ record {
        some = inv.some;
        start = λ z. absurd (omega arith);
        best = λ _. rw w.best-is (elim w.else-i-gt0.branch [
          | else-i-gt0-via-then-i-gt0+else-is_lt v ↦ keeps g.met.T.Ord.total _ _ _ _ _ inv.start inv.best c.loop-i-test.true c.index-items-i.is v.index-items-best.is (sym (v.is_lt.ensures ∙ ap is_lt v.cmp.ensures) ∙ v.if-is_lt.false)
          | else-i-gt0-via-else-i-gt0 v ↦ alone g.met.T.Ord.total _ _ _ (omega (arith, v.if-i-gt0.false)) inv.start
        ]);
      }
    ]

pub returns : goal.returns
returns g c =
    let inv = c.loop-i.invariant in
    least_from_best _ _ c.loop-i.i c.loop-i.best (omega arith) (inv.best (omega (arith, inv.some)))
