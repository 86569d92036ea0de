use Rattle.std.proofs.Common.{rules, ◌≡◌, ◌+◌, [], ◌∷◌, ◌++◌, take, sym, subst}
use Rattle.rehearsal.specs.Texts.{AreJobs, none}
use Rattle.rehearsal.proofs.JobTexts.{bytes_of, next_job, next_other}
use Rattle.rehearsal.proofs.texts.jobs_of.Goals as goal
use Rattle.rehearsal.proofs.texts.jobs_of.Goals.{in-Ok+in_ok-push, in_default}

pub loop-text-init : goal.loop-text-init
loop-text-init c = subst (AreJobs []) (sym c.new-jobs.ensures.items) none

pub loop-text-preserved : goal.loop-text-preserved
loop-text-preserved c =
    let texts = c.args.texts.now in
    let i = c.loop-text.text-index in
    elim c.match-read_job.branch [
      | in-Ok+in_ok-push w ↦
          let put : c.match-read_job.jobs.items ≡ c.loop-text.jobs.items ++ w.in-Ok.job ∷ [] = search rules in
          subst (AreJobs (bytes_of (take (i + 1) texts))) (sym put) (next_job texts i _ c.loop-text-test.true c.loop-text.jobs.items w.in-Ok.job c.loop-text.invariant w.in-Ok.ensures)
      | in_default w ↦
          subst (λ js. AreJobs (bytes_of (take (i + 1) texts)) js.items) (sym w.jobs-is) (next_other texts i _ c.loop-text-test.true c.loop-text.jobs.items w.in_default.field-0 c.loop-text.invariant w.in_default.ensures)
    ]
