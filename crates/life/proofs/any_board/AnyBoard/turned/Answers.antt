use Rattle.std.proofs.Common.{sym, ap}
use Rattle.life.specs.InStep.{board_of}
use Rattle.life.proofs.Answering.{turn_not_running, turn_not_stopped, turn_start, turn_stop}
use Rattle.life.proofs.any_board.AnyBoard.turned.Goals as goal

pub returns-in-Start-clause-answered : goal.returns-in-Start-clause-answered
returns-in-Start-clause-answered g c = λ by es keeps.
    turn_start by g.O.EngineOrder.listing c.args.self c.args.call.now c.in-Stopped.board c.start.result es c.in-Stopped.is c.in-Start.is c.start.ensures.begins c.start.ensures.board

pub returns-in_default : goal.returns-in_default
returns-in_default g c = record {
  answered = λ by es keeps. turn_not_stopped by g.O.EngineOrder.listing c.args.self c.args.call.now c.in-Stopped.board es c.in-Stopped.is c.requires c.in_default.not-Start;
  kept = ap board_of (sym c.in-Stopped.is);
}

pub returns-in-Stop-clause-answered : goal.returns-in-Stop-clause-answered
returns-in-Stop-clause-answered g c = λ by es keeps.
    turn_stop by g.O.EngineOrder.listing c.args.self c.args.call.now c.in-Running.board c.stop.result es c.in-Running.is c.in-Stop.is c.stop.ensures

pub returns-in_default-call : goal.returns-in_default-call
returns-in_default-call g c = record {
  answered = λ by es keeps. turn_not_running by g.O.EngineOrder.listing c.args.self c.args.call.now c.in-Running.board es c.in-Running.is keeps c.requires c.in_default-call.not-Stop;
  kept = ap board_of (sym c.in-Running.is);
}
