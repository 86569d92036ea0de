use Rattle.std.proofs.Common.{arith}
use Rattle.std.proofs.lemmas.Bool.{both_ways}
use Rattle.plan.proofs.Branches.{branches_some}
use Rattle.plan.proofs.plan.Plan.of.Goals as goal

pub invariant_of-result : goal.invariant_of-result
invariant_of-result g c =
    let holds = c.of.ensures.holds (c.is_possible-possible.ensures.0 c.if-not-possible.false) in
    record {
      some = omega (arith, c.reached_by_branch-reached.ensures.many, branches_some c.args.job.now);
      roomy = λ v member sub_task. holds.roomy v ((c.concrete.ensures.nodes v).0 member) sub_task;
      timely = λ v member sub_task. holds.timely v ((c.concrete.ensures.nodes v).0 member) sub_task;
    }

pub returns-then-not-possible : goal.returns-then-not-possible
returns-then-not-possible g c = λ p. both_ways _ c.if-not-possible.true (c.is_possible-possible.ensures.1 p)
