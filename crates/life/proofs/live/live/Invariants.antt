use Rattle.life.proofs.SoFar.{SoFar}
use Rattle.life.proofs.live.live.Given as goal

abbrev pub invariant-loop-entry : goal.invariant-loop-entry
invariant-loop-entry g l =
    SoFar g.P.Roster.tags g.P.Supply.supply g.R.SlackRule.local g.O.EngineOrder.listing (g.O.EngineOrder.listing l.fn.order) l.fn.platform l.fn.rule l.standing l.entry-index l.fn.history l.history
