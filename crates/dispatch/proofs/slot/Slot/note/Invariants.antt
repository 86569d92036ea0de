use Rattle.std.proofs.Common.{◌≡◌, ℕ, ◌<◌, None, get_or, take}
use Rattle.std.specs.Option.{option_map}
use Rattle.dispatch.specs.Candidate.{key}
use Rattle.dispatch.specs.Choosing.{ready_of, soonest}
use Rattle.dispatch.proofs.slot.Slot.note.Given as goal

abbrev pub invariant-loop-task : goal.invariant-loop-task
invariant-loop-task l = (e : ℕ) → e < 16 → option_map key (get_or l.firsts e None) ≡ soonest (option_map key (get_or l.fn.firsts e None)) (ready_of e l.self.job (take l.task-index l.task-items))
