use Rattle.std.proofs.Common.{◌≡◌, map, take}
use Rattle.few.specs.Few.{items}
use Rattle.text.proofs.calendar_text.make_calendar.Given as goal

abbrev pub invariant-loop-engine : goal.invariant-loop-engine
invariant-loop-engine l =
    (items l.tags ≡ map (λ e. e.tag) (take l.engine-index l.engines)) × (items l.marks ≡ map (λ e. e.marks) (take l.engine-index l.engines))
