use Rattle.std.proofs.Common.{◌≡◌}
use Rattle.engine.specs.Calendar.{supply_of}
use Rattle.few.specs.Few.{items}
use Rattle.rehearsal.specs.Calls.{is_needed, served_in}
use Rattle.rehearsal.proofs.calls.least_tick.Given as goal

abbrev pub invariant-loop-engine : goal.invariant-loop-engine
invariant-loop-engine l = l.served ≡ served_in l.engine (is_needed (supply_of (items l.platform.courses)) l.clock)
