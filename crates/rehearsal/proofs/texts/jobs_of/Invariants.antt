use Rattle.std.proofs.Common.{map, take}
use Rattle.rehearsal.specs.Texts.{AreJobs}
use Rattle.rehearsal.proofs.texts.jobs_of.Given as goal

abbrev pub invariant-loop-text : goal.invariant-loop-text
invariant-loop-text l = AreJobs (map (λ x. x.now) (take l.text-index l.texts)) l.jobs.items
