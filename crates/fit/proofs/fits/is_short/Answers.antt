use Rattle.std.proofs.Common.{◌≡◌, map, min, ap, Bor, arith}
use Rattle.claim.specs.declared.claim.Claim.{Claim}
use Rattle.fit.specs.Fits.{given_of_all}
use Rattle.fit.proofs.Spending.{short_iff}
use Rattle.fit.proofs.fits.is_short.Goals as goal

pub returns : goal.returns
returns g c =
    let s = g.P.Supply.supply c.args.platform.now c.args.engine in
    let n = min c.args.ticks 28800 in
    let cs = map (λ (b : Bor Claim). b.now) c.args.claims.now in
    let (to, fro) = short_iff c.spare.result c.is_none.result (given_of_all cs c.min-ticks.result) c.from-served.result c.spare.ensures.spare c.is_none.ensures in
    let asked : given_of_all cs c.min-ticks.result ≡ given_of_all cs n = ap (given_of_all cs) c.min-ticks.ensures in
    let there : min c.min-ticks.result 28800 ≡ n = omega (arith, c.min-ticks.ensures) in
    let served : c.from-served.result ≡ s n = omega (arith, c.from-served.ensures, c.supply.ensures, ap s there) in
    (λ y. omega (arith, asked, served, to y), λ short. fro (omega (arith, asked, served, short)))
