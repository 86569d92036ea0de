use Rattle.std.proofs.Common.{◌≡◌, ◌+◌, ◌*◌, ◌≤◌, ◌++◌, flat_map, length}
use Rattle.plan.specs.Part.{tasks_below}
use Rattle.resident.specs.Resident.{number_of}
use Rattle.sheet.specs.Lines.{title}
use Rattle.sheet.specs.Sheet.{has_line, line_of}
use Rattle.sheet.proofs.sheet.Sheet.text.Given as goal

abbrev pub invariant-loop-v : goal.invariant-loop-v
invariant-loop-v l =
    let r = l.self.resident.now in
    record {
      short : length l.text.bytes ≤ 33 + 69 * l.v;
      written : l.text.bytes ≡ title (number_of r) r.plan.choice ++ flat_map (line_of r) (tasks_below r.plan (has_line r) l.v);
    }
