use Rattle.std.proofs.Common.{false, refl, sym, arith}
use Rattle.std.proofs.lemmas.Bool.{both_ways}
use Rattle.fit.proofs.Rooms.{none_is_fit, short_is_unfit, too_much}
use Rattle.fit.proofs.room.Room.shortage.Goals as goal

pub returns-then-self-ticks-clause-fits : goal.returns-then-self-ticks-clause-fits
returns-then-self-ticks-clause-fits c = λ s cycle quota cs ps law leaves st. (
  λ y. absurd (both_ways false refl (sym y)),
  λ fit. absurd (short_is_unfit s cs c.args.self.now c.args.demands.now leaves ps st c.loop-ticks.ticks (too_much s cs c.args.self.now c.args.demands.now leaves c.loop-ticks.ticks (omega (arith, c.loop-ticks-test.true)) c.if-self-ticks.true) fit),
)

pub returns-then-self-ticks-clause-short : goal.returns-then-self-ticks-clause-short
returns-then-self-ticks-clause-short c = λ s cs leaves. (omega (arith, c.loop-ticks-test.true), too_much s cs c.args.self.now c.args.demands.now leaves c.loop-ticks.ticks (omega (arith, c.loop-ticks-test.true)) c.if-self-ticks.true)

pub returns-clause-fits : goal.returns-clause-fits
returns-clause-fits c = λ s cycle quota cs ps law leaves st. (
  λ _. none_is_fit s cs c.args.self.now c.args.demands.now leaves cycle quota law ps st (λ n few. c.loop-ticks.invariant n (omega (arith, c.loop-ticks-test.false, c.loop-ticks.auto.ticks-end))),
  λ _. refl,
)
