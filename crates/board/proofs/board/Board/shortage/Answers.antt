use Rattle.std.proofs.Common.{◌≡◌, ◌∷◌, map, rules, sym, subst}
use Rattle.board.specs.Residents.{jobs}
use Rattle.board.specs.Asked.{asked_on, claims_on}
use Rattle.board.proofs.Stating.{stated_on}
use Rattle.board.proofs.Steps.{each_ok}
use Rattle.fit.specs.Stated.{Stated}
use Rattle.board.proofs.board.Board.shortage.Goals as goal

pub returns : goal.returns
returns g c =
    let rs = jobs c.args.self.now.residents in
    let e = c.args.engine in
    let is : map (λ x. x.now) c.as_slice-2.result.now ≡ c.args.claim.now ∷ claims_on rs e = search rules in
    each_ok _ _ c.shortage.result (λ known fits p states. fits (p ∷ asked_on rs e) (subst (Stated (p ∷ asked_on rs e)) (sym is) (states, stated_on rs e))) c.shortage.ensures.fits
