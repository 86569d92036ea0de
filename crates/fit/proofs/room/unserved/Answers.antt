use Rattle.std.proofs.Common.{min, arith}
use Rattle.fit.proofs.Serving.{within_ticks}
use Rattle.fit.proofs.room.unserved.Goals as goal

pub overflow_cast-result : goal.overflow_cast-result
overflow_cast-result g c = omega (arith, c.supply.ensures, within_ticks (g.P.Supply.supply c.args.platform.now c.args.engine) _ _ (g.P.Supply.laws c.args.platform.now c.args.engine) (min c.min-ticks.result 28800))

pub overflow_add-result : goal.overflow_add-result
overflow_add-result g c = omega (arith, c.supply.ensures, within_ticks (g.P.Supply.supply c.args.platform.now c.args.engine) _ _ (g.P.Supply.laws c.args.platform.now c.args.engine) (min c.min-ticks.result 28800))
