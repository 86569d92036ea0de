-- The open sub-tasks of a job.
--   in_time t o         at the clock t the open sub-task o waits only before its release, and is ready only from then on
--   tasks_in s          the open sub-tasks of the slot s
--   slot_in_time t s    each of them is in time
use Rattle.std.specs.Prelude.{ℕ, Bool, true, nat_le, nat_lt, List, take}
use Rattle.std.specs.List.{list_all}
use Rattle.dispatch.specs.declared.phase.Phase.{Phase}
use Rattle.dispatch.specs.declared.phase.Phase.TheVariants.{Finished, Late, Ready, Waiting}
use Rattle.dispatch.specs.declared.slot.Open.{Open}
use Rattle.dispatch.specs.declared.slot.Slot.{Slot}

abbrev pub phase_in_time : ℕ → ℕ → Phase → Bool
phase_in_time t release (Waiting n) = nat_lt t release
phase_in_time t release (Ready n) = nat_le release t
phase_in_time t release Finished = true
phase_in_time t release Late = true

abbrev pub in_time : ℕ → Open → Bool
in_time t o = phase_in_time t o.release o.phase

abbrev pub tasks_in : Slot → List Open
tasks_in s = take s.len s.tasks

abbrev pub slot_in_time : ℕ → Slot → Bool
slot_in_time t s = list_all (in_time t) (tasks_in s)
