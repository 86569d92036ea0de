use Rattle.std.proofs.Common.{◌≡◌, ◌++◌, filter, map, take}
use Rattle.rehearsal.specs.Calls.{arrival, is_due}
use Rattle.rehearsal.proofs.calls.add_at.Given as goal

abbrev pub invariant-loop-job : goal.invariant-loop-job
invariant-loop-job l = l.calls.items ≡ l.initial.calls.items ++ map (arrival l.clock) (filter (is_due l.clock) (take l.job-index l.jobs))
