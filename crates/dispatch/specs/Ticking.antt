-- What a tick does.
--   masked m e          whether the bit of the engine e is set in the mask m
--   keyed r             what ran, as a key; when it was due does not matter here
--   is_named r t        whether t is what ran
--   worked_by k j o     the open sub-task o of the job with the number j, as a run over lists has it, after the work of the tick k
--   late_by k j o       whether its end comes with the tick, so that it becomes late
--   turned k j o        o after the tick
--   slot_turned k s     the slot s after the tick
--   slot_late k s       how many of its open sub-tasks become late
--   ran_on e b m        what runs on the engine e of the table b at a tick with the served mask m
use Rattle.std.specs.Prelude.{ℕ, ◌+◌, Bool, true, false, cond, ◌==◌, nat_le, ◌++◌, count_by, drop, map, Option, Some, None, slice_index_or}
use Rattle.std.specs.Int.{bit_at}
use Rattle.std.specs.Option.{option_map}
use Rattle.dispatch.specs.declared.candidate.Next.{Next}
use Rattle.dispatch.specs.declared.slot.Open.{Open}
use Rattle.dispatch.specs.declared.slot.Slot.{Slot}
use Rattle.dispatch.specs.declared.table.Table.{Table}
use Rattle.dispatch.specs.declared.tick.Tick.{Tick}
use Rattle.dispatch.specs.Candidate.{named}
use Rattle.dispatch.specs.Phase.{phase_by}
use Rattle.dispatch.specs.Slot.{tasks_in}
use Rattle.dispatch.specs.Table.{shown, tasks_open}
use Rattle.runs.specs.Events.{advance, expired, overdue, same}
use Rattle.runs.specs.Next.{Key, next}
use Rattle.runs.specs.State.{OpenTask, Task}

abbrev pub masked : ℕ → ℕ → Bool
masked m e = bit_at m e == 1

abbrev pub key_of : Next → Key
key_of n = record { due = 0; job = n.job; node = n.node }

abbrev pub keyed : Option Next → Option Key
keyed r = option_map key_of r

abbrev pub is_named : Option Next → Task → Bool
is_named None t = false
is_named (Some n) t = same (key_of n) t

abbrev pub worked_by : Tick → ℕ → Open → OpenTask
worked_by k j o = advance (λ e. keyed (slice_index_or k.ran e None)) (λ _. true) (masked k.done) (shown j o)

abbrev pub late_by : Tick → ℕ → Open → Bool
late_by k j o = overdue (k.clock + 1) (worked_by k j o)

abbrev pub turned : Tick → ℕ → Open → Open
turned k j o = record o { phase = phase_by (nat_le o.release (k.clock + 1)) (expired (k.clock + 1) (worked_by k j o)).phase }

abbrev pub slot_turned : Tick → Slot → Slot
slot_turned k s = record s { tasks = map (turned k s.job) (tasks_in s) ++ drop s.len s.tasks }

abbrev pub slot_late : Tick → Slot → ℕ
slot_late k s = count_by (late_by k s.job) (tasks_in s)

abbrev pub ran_on : ℕ → Table → ℕ → Option Next
ran_on e b m = cond (masked m e) (option_map named (next e b.clock (tasks_open b))) None
