use Rattle.std.proofs.Common.{◌∙◌}
use Rattle.std.proofs.lemmas.List.{length-map}
use Rattle.text.specs.PlatformText.{said}
use Rattle.text.proofs.Passing.{passed_on}
use Rattle.text.proofs.Engines.{count_halts, engines_halt, halts_refused, over_halts}
use Rattle.text.proofs.Following.{start_fails, start_took}
use Rattle.text.specs.declared.key.Key.TheVariants.{Engines}
use Rattle.text.proofs.platform_text.read_platform.Goals as goal

pub returns-in_err-count : goal.returns-in_err-count
returns-in_err-count c =
    passed_on _ _ _ _ c.from_residual-in_err-count.ensures.1 (halts_refused _ _ c.in_ok-lines.ensures.sized (count_halts _ _ (start_fails Engines _ c.in_ok-lines.ensures c.in_err-count.ensures)))

pub returns-in_err-engines : goal.returns-in_err-engines
returns-in_err-engines c =
    let stop = c.in_err-engines.ensures in
    passed_on _ _ _ _ c.from_residual-in_err-engines.ensures.1 (halts_refused _ _ c.in_ok-lines.ensures.sized
    (engines_halt c.in_ok-count.field-0 stop.0 _ _ _ _ stop.1 (start_took c.in_ok-lines.ensures c.in_ok-count.ensures.0) stop.2))

pub returns-in_err-end : goal.returns-in_err-end
returns-in_err-end c =
    let over = c.in_err-end.ensures in
    let is = c.in_ok-engines.ensures in
    passed_on _ _ _ _ c.from_residual-in_err-end.ensures.1 (halts_refused _ _ c.in_ok-lines.ensures.sized
    (over_halts c.in_ok-count.field-0 _ _ _ _ _ _ _ (length-map _ said ∙ is.0) (start_took c.in_ok-lines.ensures c.in_ok-count.ensures.0) is.1 over.0 over.1))
