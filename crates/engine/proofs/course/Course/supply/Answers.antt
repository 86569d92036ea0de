use Rattle.std.proofs.Common.{arith}
use Rattle.engine.proofs.Serving.{supply_is, supply_few}
use Rattle.engine.proofs.course.Course.supply.Goals as goal

pub overflow_mul-result : goal.overflow_mul-result
overflow_mul-result c =
    let s = c.args.self.now in
    let is = supply_is s c.args.ticks c.cycle-cycle.result c.quota.result c.cycle-cycle.ensures c.quota.ensures in
    let few = supply_few s c.args.ticks in
    omega arith

pub overflow_add-result : goal.overflow_add-result
overflow_add-result c =
    let s = c.args.self.now in
    let is = supply_is s c.args.ticks c.cycle-cycle.result c.quota.result c.cycle-cycle.ensures c.quota.ensures in
    let few = supply_few s c.args.ticks in
    omega arith

pub returns : goal.returns
returns c = supply_is c.args.self.now c.args.ticks c.cycle-cycle.result c.quota.result c.cycle-cycle.ensures c.quota.ensures
