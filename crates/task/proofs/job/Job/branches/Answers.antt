use Rattle.task.proofs.job.Job.branches.Goals as goal

pub returns : goal.returns
returns c = c.numbers.ensures
