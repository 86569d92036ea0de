use Rattle.std.proofs.Common.{◌∷◌, rules, sym, subst}
use Rattle.board.specs.Asked.{asked_on, claims_on}
use Rattle.board.specs.Residents.{jobs}
use Rattle.board.proofs.Stating.{stated_on}
use Rattle.fit.specs.Room.{Leaves}
use Rattle.fit.specs.Stated.{States}
use Rattle.board.proofs.board.Board.shortage_by_room.Goals as goal

pub returns-clause-fits : goal.returns-clause-fits
returns-clause-fits g c =
    let me = c.args.self.now in
    let rs = jobs me.residents in
    let e = c.args.engine in
    let left : Leaves (g.P.Supply.supply me.platform e) (claims_on rs e) c.get_or_insert_with-room.result.now = search rules in
    λ p states.
    c.shortage.ensures.fits (g.P.Supply.supply me.platform e) _ _ (claims_on rs e) (p ∷ asked_on rs e) (g.P.Supply.laws me.platform e) left (subst (States p) (sym c.of.ensures) states, stated_on rs e)
