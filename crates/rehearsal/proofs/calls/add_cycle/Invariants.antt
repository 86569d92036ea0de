use Rattle.std.proofs.Common.{◌≡◌, ◌++◌}
use Rattle.engine.specs.Calendar.{supply_of}
use Rattle.few.specs.Few.{items}
use Rattle.std.specs.List.{flat_map}
use Rattle.rehearsal.specs.Below.{below}
use Rattle.rehearsal.specs.Calls.{calls_at}
use Rattle.rehearsal.proofs.calls.add_cycle.Given as goal

abbrev pub invariant-loop-clock : goal.invariant-loop-clock
invariant-loop-clock l = l.calls.items ≡ l.initial.calls.items ++ flat_map (calls_at (supply_of (items l.platform.courses)) l.jobs) (below l.clock)
