use Rattle.std.proofs.Common.{◌≡◌, ℕ, ◌<◌, None, get_or, take}
use Rattle.std.specs.Option.{option_map}
use Rattle.dispatch.specs.Candidate.{key}
use Rattle.dispatch.specs.Choosing.{all_candidates, soonest}
use Rattle.dispatch.proofs.table.Table.firsts.Given as goal

abbrev pub invariant-loop-slot : goal.invariant-loop-slot
invariant-loop-slot l = (e : ℕ) → e < 16 → option_map key (get_or l.firsts e None) ≡ soonest None (all_candidates e (take l.slot-index l.slot-items))
