use Rattle.task.proofs.job.Job.choices.Goals as goal

pub returns : goal.returns
returns c = c.numbers.ensures
