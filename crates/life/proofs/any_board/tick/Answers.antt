use Rattle.std.proofs.Common.{◌≡◌, ℕ, ◌<◌, length, ap, subst, sym, List}
use Rattle.board.specs.Residents.{jobs}
use Rattle.life.specs.Standing.{state_of}
use Rattle.life.proofs.Answering.{tick_done, tick_not}
use Rattle.life.proofs.Keeping.{tick_granted}
use Rattle.running.specs.Ticking.{NoOther, TickRefused}
use Rattle.running.specs.View.{view}
use Rattle.runs.specs.State.{State}
use Rattle.life.proofs.any_board.tick.Goals as goal

pub returns-in-Ok-clause-answered : goal.returns-in-Ok-clause-answered
returns-in-Ok-clause-answered g c = λ rules l es tags keeps.
    let rs = jobs c.args.board.now.board.residents in
    let was = view c.args.board.now in
    let clock : was.clock ≡ (state_of rs es).clock = ap (λ (st : State). st.clock) keeps in
    let early : (state_of rs es).clock < 2000000000 = subst (λ (n : ℕ). n < 2000000000) clock c.in-Ok.ensures.in_time in
    let none : NoOther (length rules.tags) c.args.served c.args.done = subst (λ (ts : List ℕ). NoOther (length ts) c.args.served c.args.done) (sym tags) c.in-Ok.ensures.exist in
    tick_done rules rs l es was (view c.tick.new.self) keeps c.args.served c.args.done c.in-Ok.late c.tick.new.ran
    (tick_granted (state_of rs es) (length rules.tags) c.args.served c.args.done early none) (search rules) c.in-Ok.ensures.ran c.in-Ok.ensures.steps c.in-Ok.ensures.late

pub returns-in-Err-clause-answered : goal.returns-in-Err-clause-answered
returns-in-Err-clause-answered g c = λ rules l es tags keeps.
    let rs = jobs c.args.board.now.board.residents in
    let refused = c.in-Err.ensures.refused in
    tick_not rules rs l es (view c.args.board.now) (view c.tick.new.self) keeps c.args.served c.args.done c.in-Err.refusal
    (subst (λ (ts : List ℕ). TickRefused (length ts) (view c.args.board.now) c.args.served c.args.done c.in-Err.refusal) (sym tags) refused.0) (ap view refused.1)
