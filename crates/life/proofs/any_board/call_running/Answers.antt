use Rattle.std.proofs.Common.{rules, ap, subst, sym, length}
use Rattle.board.specs.Residents.{jobs}
use Rattle.life.specs.declared.call.Answer.TheVariants.{Done, Refused}
use Rattle.life.specs.declared.call.Call.{Call}
use Rattle.life.proofs.Answering.{arrival_granted, arrival_grants, arrival_not, Goes, running_takes_not}
use Rattle.running.specs.View.{view}
use Rattle.life.proofs.any_board.call_running.Goals as goal

pub returns-in-Ok-clause-answered : goal.returns-in-Ok-clause-answered
returns-in-Ok-clause-answered g c = λ by l es tags keeps.
    let rs = jobs c.args.board.now.board.residents in
    let was = view c.args.board.now in
    let now = view c.arrive.new.self in
    let n = c.in-Arrive.number in
    let b = c.in-Arrive.branch in
    subst (λ (k : Call). Goes by rs l es was now keeps k Done) (sym c.in-Arrive.is)
    (arrival_granted by rs l es was now keeps n b (arrival_grants by rs l es was now keeps (length by.tags) n b c.in-Ok.ensures.granted) c.in-Ok.ensures.arrives)

pub returns-in-Err-clause-answered : goal.returns-in-Err-clause-answered
returns-in-Err-clause-answered g c = λ by l es tags keeps.
    let rs = jobs c.args.board.now.board.residents in
    let was = view c.args.board.now in
    let now = view c.arrive.new.self in
    subst (λ (k : Call). Goes by rs l es was now keeps k (Refused c.in-Err.refusal)) (sym c.in-Arrive.is)
    (arrival_not by rs l es was now keeps c.in-Arrive.number c.in-Arrive.branch c.in-Err.refusal c.in-Err.ensures.refused.0 (ap view c.in-Err.ensures.refused.1))

pub returns-in-Tick-clause-answered : goal.returns-in-Tick-clause-answered
returns-in-Tick-clause-answered g c = λ by l es tags keeps.
    subst (λ (k : Call). Goes by (jobs c.args.board.now.board.residents) l es (view c.args.board.now) (view c.tick.new.board) keeps k c.tick.result) (sym c.in-Tick.is) (c.tick.ensures.answered by l es tags keeps)

pub returns-in_default : goal.returns-in_default
returns-in_default g c = record {
  answered = λ by l es tags keeps. (es, running_takes_not by c.args.call.now c.requires (λ n b. c.in_default.not-Arrive n b) (λ served done. c.in_default.not-Tick served done), keeps);
  kept = search rules;
}
