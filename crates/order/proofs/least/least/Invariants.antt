use Rattle.std.proofs.Common.{◌≡◌, ◌<◌, length}
use Rattle.std.specs.Ordering.{is_lt}
use Rattle.std.specs.List.{IsFirstBest}
use Rattle.order.proofs.least.least.Given as goal

abbrev pub invariant-loop-i : goal.invariant-loop-i
invariant-loop-i g l = record {
  some : 0 < length l.items;
  start : l.i ≡ 0 → l.best ≡ 0;
  best : 0 < l.i → IsFirstBest (λ x y. is_lt (g.T.Ord.cmp x y)) l.items l.i l.best;
}
