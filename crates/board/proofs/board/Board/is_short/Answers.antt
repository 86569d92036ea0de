use Rattle.std.proofs.Common.{rules, ◌≡◌, ◌∷◌, map, min, ap, ◌∙◌, arith}
use Rattle.board.specs.Asked.{asked_on, claims_on}
use Rattle.board.specs.Residents.{jobs}
use Rattle.board.proofs.Stating.{stated_on}
use Rattle.fit.specs.Fits.{given_of_all}
use Rattle.fit.proofs.Stating.{given_in_all}
use Rattle.theory.specs.Demand.{demand_of_all}
use Rattle.board.proofs.board.Board.is_short.Goals as goal

pub returns : goal.returns
returns g c =
    let rs = jobs c.args.self.now.residents in
    let e = c.args.engine in
    let n = min c.args.ticks 28800 in
    let is : map (λ x. x.now) c.as_slice-2.result.now ≡ c.args.claim.now ∷ claims_on rs e = search rules in
    λ p states.
    let same : given_of_all (map (λ x. x.now) c.as_slice-2.result.now) n ≡ demand_of_all (p ∷ asked_on rs e) n =
    ap (λ cs. given_of_all cs n) is ∙ given_in_all (p ∷ asked_on rs e) (c.args.claim.now ∷ claims_on rs e) (states, stated_on rs e) n in
    (λ y. omega (arith, same, c.is_short.ensures.0 y), λ short. c.is_short.ensures.1 (omega (arith, same, short)))
