use Rattle.std.proofs.Common.{◌≡◌, sym, ◌∙◌, arith}
use Rattle.claim.specs.Asking.{given}
use Rattle.claim.proofs.Giving.{given_is}
use Rattle.claim.proofs.claim.Claim.demand.Goals as goal

pub returns-clause-demand : goal.returns-clause-demand
returns-clause-demand c =
    let me = c.args.self.now in
    let n = c.args.ticks in
    let is : given me n ≡ c.plateau.result.most = c.plateau.ensures.level n (c.plateau.ensures.within, omega (arith, c.plateau.ensures.here)) in
    λ p ok claims. sym is ∙ given_is p me ok claims n
