use Rattle.std.proofs.Common.{inl, inr, arith}
use Rattle.std.proofs.lemmas.Bool.{cases_lt}
use Rattle.dispatch.proofs.Masks.{unmasked}
use Rattle.running.proofs.known.names_another.Goals as goal

pub returns : goal.returns
returns c = λ e beyond. elim (cases_lt e 16) [
  | inl low ↦ c.loop-engine.invariant e beyond (omega (arith, low, c.loop-engine-test.false))
  | inr past ↦ rw (unmasked c.args.served e (omega (arith, c.ranges.served.fits)) past) (unmasked c.args.done e (omega (arith, c.ranges.done.fits)) past)
]
