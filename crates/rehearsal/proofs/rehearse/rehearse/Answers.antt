use Rattle.std.proofs.Common.{◌≡◌, ◌∙◌, string_bytes, inr, ap}
use Rattle.std.specs.Option.{option_map}
use Rattle.listing.proofs.Making.{made_map}
use Rattle.rehearsal.specs.Rehearsal.{Rehearses}
use Rattle.rehearsal.specs.Report.{report}
use Rattle.rehearsal.proofs.rehearse.rehearse.Goals as goal

pub returns-in_ok-play-in-Ok : goal.returns-in_ok-play-in-Ok
returns-in_ok-play-in-Ok c =
    let opened = c.in-Ok.field-0 in
    made_map c.report.result (λ s. string_bytes s ≡ report c.deref.result.now) (λ s. Rehearses c.args.input.now (string_bytes s))
    (λ s p. inr (opened.platform, option_map (λ x. x.now) opened.texts, c.in-Ok.ensures, c.in_ok-play-in-Ok.field-0.items, c.in_ok-play-in-Ok.ensures, p ∙ ap report c.deref.ensures.value))
    c.report.ensures
