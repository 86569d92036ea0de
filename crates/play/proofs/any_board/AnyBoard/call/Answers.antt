use Rattle.std.proofs.Common.{◌≡◌, false, true, ap, ◌∙◌, sym, subst}
use Rattle.std.specs.Box.{with_value}
use Rattle.play.specs.declared.any_board.AnyBoard.TheVariants.{Running, Stopped}
use Rattle.play.specs.Standing.{is_running, takes}
use Rattle.play.proofs.any_board.AnyBoard.call.Goals as goal

pub returns-in-Stopped-clause-not_made : goal.returns-in-Stopped-clause-not_made
returns-in-Stopped-clause-not_made g c e =
    let left : takes false c.args.call.now ≡ false = subst (λ b. takes (is_running b) c.args.call.now ≡ false) c.in-Stopped.is e in
    ap (λ v. Stopped (with_value c.in-Stopped.board v)) (c.call_stopped.ensures.not_made left ∙ c.deref_mut.ensures.value) ∙ sym c.in-Stopped.is

pub returns-in-Running-clause-not_made : goal.returns-in-Running-clause-not_made
returns-in-Running-clause-not_made g c e =
    let left : takes true c.args.call.now ≡ false = subst (λ b. takes (is_running b) c.args.call.now ≡ false) c.in-Running.is e in
    ap (λ v. Running (with_value c.in-Running.board v)) (c.call_running.ensures.not_made left ∙ c.deref_mut-in-Running.ensures.value) ∙ sym c.in-Running.is
