use Rattle.std.proofs.Common.{◌≡◌, ◌++◌, map, take}
use Rattle.rehearsal.specs.Calls.{unload}
use Rattle.rehearsal.proofs.calls.add_unloads.Given as goal

abbrev pub invariant-loop-job : goal.invariant-loop-job
invariant-loop-job l = l.calls.items ≡ l.initial.calls.items ++ map unload (take l.job-index l.jobs)
