use Rattle.std.proofs.Common.{rules, ◌≡◌, true, IsSome, sym, subst}
use Rattle.plan.specs.Part.{tagged}
use Rattle.plan.specs.Plan.{nodes_of}
use Rattle.resident.proofs.Sitting.{sub_task_sits}
use Rattle.task.specs.Graph.{at}
use Rattle.sheet.proofs.sheet.Sheet.line.Goals as goal

pub unwrap-requires : goal.unwrap-requires
unwrap-requires c =
    let r = c.args.self.now.resident.now in
    let tag = c.in-Some-SubTask.tag in
    let is : tagged tag (at (nodes_of r.plan) c.args.v) ≡ true = search rules in
    subst IsSome (sym c.engine_of.ensures) (sub_task_sits r c.args.v tag c.requires c.if-is_member.true is)
