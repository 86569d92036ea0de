use Rattle.task.specs.Flaws.{graph}
use Rattle.task.specs.Picks.{by_both}
use Rattle.task.specs.Tables.{leads}
use Rattle.task.proofs.Leading.{told_same}
use Rattle.task.proofs.job.Job.reached.Goals as goal

pub returns : goal.returns
returns c =
    let ns = graph c.args.self.now in
    told_same ns (leads c.kept_by_both.result) (by_both ns c.args.choice c.args.branch) c.kept_by_both.ensures.same c.led.result c.led.ensures
