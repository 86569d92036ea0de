use Rattle.std.proofs.Common.{◌≡◌, length, map}
use Rattle.few.specs.Few.{items}
use Rattle.text.specs.PlatformText.{engines_slots, said}
use Rattle.text.specs.Take.{Takes}
use Rattle.text.proofs.lines.Lines.engines.Given as goal

abbrev pub invariant-loop : goal.invariant-loop
invariant-loop l = (length (items l.engines) ≡ l.counter) × Takes (engines_slots (map said (items l.engines))) l.initial.self l.self
