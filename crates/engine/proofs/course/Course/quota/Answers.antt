use Rattle.engine.proofs.Serving.{quota_is}
use Rattle.engine.proofs.course.Course.quota.Goals as goal

pub returns : goal.returns
returns c = quota_is c.args.self.now c.len.result c.len.ensures
