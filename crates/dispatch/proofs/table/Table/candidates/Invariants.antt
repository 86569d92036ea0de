use Rattle.std.proofs.Common.{◌≡◌, ◌*◌, ◌≤◌, length, take}
use Rattle.dispatch.specs.Choosing.{all_candidates}
use Rattle.few.specs.Few.{items}
use Rattle.dispatch.proofs.table.Table.candidates.Given as goal

abbrev pub invariant-loop-slot : goal.invariant-loop-slot
invariant-loop-slot l = record {
  found : items l.found ≡ all_candidates l.engine (take l.slot-index l.slot-items);
  few : length (items l.found) ≤ 24 * l.slot-index;
}
