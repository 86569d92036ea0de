-- Which sub-task an engine runs next.
--   ready_on e o             whether the open sub-task o is ready on the engine e, by its phase
--   candidate j o            o, of the job with the number j, as a candidate
--   candidates e s           those of the slot s that are ready on the engine e
--   all_candidates e ss      those of all slots, slot by slot
--   soonest o cs             the first of the candidates cs, by what was found so far
use Rattle.std.specs.Prelude.{ℕ, Bool, ◌&&◌, ◌==◌, List, filter, flat_map, fold, map, Option}
use Rattle.dispatch.specs.declared.candidate.Candidate.{Candidate}
use Rattle.dispatch.specs.declared.slot.Open.{Open}
use Rattle.dispatch.specs.declared.slot.Slot.{Slot}
use Rattle.dispatch.specs.Candidate.{key}
use Rattle.dispatch.specs.Phase.{is_ready}
use Rattle.dispatch.specs.Slot.{tasks_in}
use Rattle.runs.specs.Next.{Key, sooner}

abbrev pub ready_on : ℕ → Open → Bool
ready_on e o = is_ready o.phase && (o.engine == e)

abbrev pub candidate : ℕ → Open → Candidate
candidate j o = record { due = o.due; job = j; node = o.node }

abbrev pub ready_of : ℕ → ℕ → List Open → List Candidate
ready_of e j os = map (candidate j) (filter (ready_on e) os)

abbrev pub candidates : ℕ → Slot → List Candidate
candidates e s = ready_of e s.job (tasks_in s)

abbrev pub all_candidates : ℕ → List Slot → List Candidate
all_candidates e ss = flat_map (candidates e) ss

abbrev pub soonest : Option Key → List Candidate → Option Key
soonest o cs = fold (λ found c. sooner (key c) found) o cs
