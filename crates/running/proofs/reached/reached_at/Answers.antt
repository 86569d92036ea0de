use Rattle.std.proofs.Common.{rules, ◌≡◌, true, false, get_or, IsSome, sym, subst, ◌∙◌}
use Rattle.plan.specs.Part.{tagged}
use Rattle.plan.specs.Plan.{nodes_of}
use Rattle.resident.proofs.Sitting.{sub_task_sits}
use Rattle.task.specs.Graph.{at}
use Rattle.task.specs.Node.{is_sub_task}
use Rattle.running.proofs.Reaching.{due_early, engine_low, opens_early}
use Rattle.running.proofs.reached.reached_at.Goals as goal

pub unwrap-requires : goal.unwrap-requires
unwrap-requires c =
    let r = c.args.resident.now in
    let v = c.args.v in
    let tag = c.in-Some-SubTask.tag in
    let is : tagged tag (at (nodes_of r.plan) v) ≡ true = search rules in
    let member : get_or r.plan.members v false ≡ true = search rules in
    subst IsSome (sym c.engine_of.ensures) (sub_task_sits r v tag c.requires member is)

pub invariant_of-result : goal.invariant_of-result
invariant_of-result c =
    let r = c.args.resident.now in
    let v = c.args.v in
    let is : is_sub_task (at (nodes_of r.plan) v) ≡ true = search rules in
    let member : get_or r.plan.members v false ≡ true = search rules in
    record {
      placed = engine_low r c.in-Some-SubTask.tag c.unwrap.result (sym c.engine_of.ensures ∙ c.unwrap.ensures);
      early = opens_early r.plan v member is;
      short = due_early r.plan v member is;
    }
