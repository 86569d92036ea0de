use Rattle.std.proofs.Common.{◌≡◌, ◌*◌, ◌≤◌, ◌++◌, drop, map, sum_by, take}
use Rattle.dispatch.specs.Ticking.{slot_late, slot_turned}
use Rattle.dispatch.proofs.ticking.turn_slots.Given as goal

abbrev pub invariant-loop-slot : goal.invariant-loop-slot
invariant-loop-slot l = record {
  after : l.slot-items ≡ map (slot_turned l.tick) (take l.slot-index l.initial.slot-items) ++ drop l.slot-index l.initial.slot-items;
  late : l.late ≡ sum_by (slot_late l.tick) (take l.slot-index l.initial.slot-items);
  few : l.late ≤ 24 * l.slot-index;
}
