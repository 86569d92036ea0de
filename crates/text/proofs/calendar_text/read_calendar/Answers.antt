use Rattle.std.proofs.Common.{◌≤◌, All, List, map, length, sym, subst}
use Rattle.engine.specs.Marks.{Fit}
use Rattle.engine.specs.Roster.{Rostered}
use Rattle.text.specs.declared.platform_text.Engine.{Engine}
use Rattle.text.specs.CalendarText.{CalendarOf}
use Rattle.text.proofs.Calendars.{platform_fits}
use Rattle.text.proofs.calendar_text.read_calendar.Goals as goal

pub make_calendar-requires : goal.make_calendar-requires
make_calendar-requires c =
    subst (λ (es : List Engine). (length es ≤ 16) × Rostered (map (λ (e : Engine). e.tag) es) × All Fit (map (λ (e : Engine). e.marks) es)) (sym c.deref.ensures.0)
    (platform_fits c.args.text.now c.in_ok-platform.platform c.in_ok-platform.ensures)

pub returns : goal.returns
returns c = record {
  platform = c.in_ok-platform.platform;
  reads = c.in_ok-platform.ensures;
  described = subst (λ (es : List Engine). CalendarOf es c.make_calendar.result) c.deref.ensures.0 c.make_calendar.ensures;
}
