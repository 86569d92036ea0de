use Rattle.std.proofs.Common.{◌≡◌, length}
use Rattle.few.specs.Few.{items}
use Rattle.text.specs.JobText.{NodesFit, nodes_slots}
use Rattle.text.specs.Take.{Takes}
use Rattle.text.proofs.lines.Lines.nodes.Given as goal

abbrev pub invariant-loop-v : goal.invariant-loop-v
invariant-loop-v l = (length (items l.nodes) ≡ l.v) × Takes (nodes_slots 0 (items l.nodes)) l.initial.self l.self × NodesFit (items l.nodes)
