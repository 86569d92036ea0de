use Rattle.std.proofs.Common.{◌≡◌, false, nat_lt, sym, ◌∙◌, arith}
use Rattle.std.proofs.lemmas.Bool.Decides.{nat_tests}
use Rattle.dispatch.proofs.Masks.{unmasked}
use Rattle.dispatch.proofs.mask.is_set.Goals as goal

pub returns-else-engine-lt-ENGINES : goal.returns-else-engine-lt-ENGINES
returns-else-engine-lt-ENGINES c =
    let m = c.args.mask in
    let e = c.args.engine in
    let no' : nat_lt e 16 ≡ false = grind (arith, nat_tests, c.if-engine-lt-ENGINES.false) in
    no' ∙ sym (unmasked m e (omega (arith, c.ranges.mask.fits)) (omega (arith, c.if-engine-lt-ENGINES.false)))
