use Rattle.std.proofs.Common.{◌≡◌, List, refl, subst, sym}
use Rattle.board.specs.declared.board.Board.{Board}
use Rattle.board.specs.Placing.{Rules}
use Rattle.board.specs.Residents.{jobs}
use Rattle.dispatch.specs.Kept.{kept}
use Rattle.life.specs.Answered.{Answered}
use Rattle.life.specs.declared.any_board.AnyBoard.{AnyBoard as Code}
use Rattle.life.specs.declared.any_board.AnyBoard.TheVariants.{Running}
use Rattle.life.specs.InStep.{InStep, board_of, stands}
use Rattle.life.specs.Standing.{running, state_of}
use Rattle.running.specs.View.{view}
use Rattle.runs.specs.Events.{Event}
use Rattle.life.proofs.any_board.AnyBoard.call.Goals as goal

pub returns-in-Running-clause-answered : goal.returns-in-Running-clause-answered
returns-in-Running-clause-answered g c = λ l0 es.
    let r = c.in-Running.board in
    let after = c.call_running.new.board in
    let listing = g.O.EngineOrder.listing in
    let by : Code g.row.P.Denot g.row.R.Denot g.row.O.Denot → Rules = λ s.
    record { tags = g.P.Roster.tags (board_of s).platform; supply = g.P.Supply.supply (board_of s).platform; local = g.R.SlackRule.local (board_of s).rule; listing = l0 } in
    let here = λ (keeps : InStep (Running r) es).
    subst (λ (b : Board g.row.P.Denot g.row.R.Denot g.row.O.Denot). (fs : List Event) × Answered (by (Running r)) (stands listing (Running r) es) c.args.call.now c.call_running.result (running (jobs b.residents) (listing b.order) fs) × (view after ≡ kept (state_of (jobs b.residents) fs)))
    (sym c.call_running.ensures.kept) (c.call_running.ensures.answered (by (Running r)) (listing r.board.order) es refl keeps) in
    subst (λ (s : Code g.row.P.Denot g.row.R.Denot g.row.O.Denot). InStep s es → (fs : List Event) × Answered (by s) (stands listing s es) c.args.call.now c.call_running.result (running (jobs after.board.residents) (listing after.board.order) fs) × (view after ≡ kept (state_of (jobs after.board.residents) fs)))
    (sym c.in-Running.is) here
