use Rattle.std.proofs.Common.{◌≡◌, ◌+◌, map, take}
use Rattle.few.specs.Few.{items}
use Rattle.engine.specs.Calendar.{AllFit, calendar}
use Rattle.engine.specs.Marks.{marked}
use Rattle.engine.proofs.calendar.courses.Given as goal

abbrev pub invariant-loop-each : goal.invariant-loop-each
invariant-loop-each l = record {
  fit : AllFit (take (l.each-index + 1) l.marks);
  made : calendar (items l.courses) ≡ map marked (take (l.each-index + 1) l.marks);
}
