use Rattle.std.proofs.Common.{rules}
use Rattle.life.proofs.Answering.{load_granted, load_refused, stopped_takes_not, unload_granted, unload_refused}
use Rattle.life.proofs.any_board.call_stopped.Goals as goal

pub returns-in-Ok-clause-answered : goal.returns-in-Ok-clause-answered
returns-in-Ok-clause-answered g c = λ l0. load_granted _ c.args.call.now c.in-Load.text c.in-Load.is c.in-Ok.ensures.granted

pub returns-in-Err-clause-answered : goal.returns-in-Err-clause-answered
returns-in-Err-clause-answered g c = λ l0.
    load_refused _ c.args.call.now g.O.EngineOrder.listing c.args.board.now c.load.new.self c.in-Load.text c.in-Load.is c.in-Err.ensures.refused.0 c.in-Err.ensures.refused.1

pub returns-in-Ok-unload-clause-answered : goal.returns-in-Ok-unload-clause-answered
returns-in-Ok-unload-clause-answered g c = λ l0.
    unload_granted _ c.args.call.now g.O.EngineOrder.listing c.args.board.now c.unload.new.self c.in-Unload.number c.in-Unload.is c.in-Ok-unload.ensures.found c.in-Ok-unload.ensures.left c.unload.ensures.kept.2

pub returns-in-Err-unload-clause-answered : goal.returns-in-Err-unload-clause-answered
returns-in-Err-unload-clause-answered g c = λ l0.
    unload_refused _ c.args.call.now g.O.EngineOrder.listing c.args.board.now c.unload.new.self c.in-Unload.number c.in-Unload.is c.in-Err-unload.ensures.refused.0 c.in-Err-unload.ensures.refused.1

pub returns-in_default : goal.returns-in_default
returns-in_default g c = record { answered = λ l0. stopped_takes_not _ c.args.call.now c.requires c.in_default.not-Load c.in_default.not-Unload; kept = search rules }
