use Rattle.std.proofs.Common.{◌≡◌, ◌+◌, ◌/◌, ◌≤◌, min, ap, arith}
use Rattle.fit.proofs.Serving.{more_serve, within_ticks}
use Rattle.fit.proofs.fits.least_for.Goals as goal

pub overflow_cast-low : goal.overflow_cast-low
overflow_cast-low g c =
    let p = c.args.platform.now in
    let e = c.args.engine in
    let few : c.args.asked ≤ c.args.ticks = omega (arith, c.requires.enough, within_ticks (g.P.Supply.supply p e) _ _ (g.P.Supply.laws p e) c.args.ticks) in
    omega (arith, c.requires.few)

pub loop-low-init : goal.loop-low-init
loop-low-init g c =
    let p = c.args.platform.now in
    let e = c.args.engine in
    let within = within_ticks (g.P.Supply.supply p e) _ _ (g.P.Supply.laws p e) in
    record {
      ordered = omega (arith, c.requires.enough, within c.args.ticks);
      within = c.requires.few;
      enough = c.requires.enough;
      below = λ k l. omega (arith, within k);
    }

pub loop-low-preserved-then-from-asked : goal.loop-low-preserved-then-from-asked
loop-low-preserved-then-from-asked g c =
    let p = c.args.platform.now in
    let e = c.args.engine in
    let s = g.P.Supply.supply p e in
    let inv = c.loop-low.invariant in
    let middle = (c.loop-low.low + c.loop-low.high) / 2 in
    let near : min middle 28800 ≡ middle = omega (arith, inv.ordered, inv.within, c.loop-low-test.true) in
    record {
      ordered = omega arith;
      within = inv.within;
      enough = inv.enough;
      below = λ k l. omega (arith, more_serve s _ _ (g.P.Supply.laws p e) k middle (omega arith), c.supply.ensures, ap s near, c.from.ensures, c.if-from-asked.true);
    }
