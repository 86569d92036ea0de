use Rattle.std.proofs.Common.{◌≤◌, List, ap, ◌∙◌, map, length, sym, subst}
use Rattle.engine.specs.Roster.{Rostered}
use Rattle.text.specs.declared.platform_text.Engine.{Engine}
use Rattle.text.proofs.Calendars.{platform_fits}
use Rattle.play.proofs.whole.read_whole.Goals as goal

pub whole_of-requires : goal.whole_of-requires
whole_of-requires c =
    let fits = platform_fits c.args.text.now c.in_ok-platform.platform c.in_ok-platform.ensures in
    subst (λ (es : List Engine). (length es ≤ 16) × Rostered (map (λ (e : Engine). e.tag) es)) (sym c.deref.ensures.0) (fits.0, fits.1)

pub returns : goal.returns
returns c = record {
  platform = c.in_ok-platform.platform;
  reads = c.in_ok-platform.ensures;
  tags = c.whole_of.ensures ∙ ap (map (λ (e : Engine). e.tag)) c.deref.ensures.0;
}
