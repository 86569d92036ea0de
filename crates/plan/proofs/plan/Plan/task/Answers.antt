use Rattle.std.proofs.Common.{◌≡◌, Bool, true, false, cond, ◌&&◌, get_or, Some, None, rules}
use Rattle.plan.specs.declared.part.Task.{Task}
use Rattle.plan.specs.Part.{tagged, task_at}
use Rattle.plan.specs.Plan.{nodes_of}
use Rattle.task.specs.Graph.{at}
use Rattle.plan.proofs.plan.Plan.task.Goals as goal

taken : (a b : Bool) (x y : Task) → a ≡ true → b ≡ true → x ≡ y → Some x ≡ cond (a && b) (Some y) None
taken a b x y member passes same = rw (member, passes, same) mathlib.Core.Path.refl

pub returns-in-Some-SubTask : goal.returns-in-Some-SubTask
returns-in-Some-SubTask c =
    let p = c.args.self.now in
    let v = c.args.v in
    taken (get_or p.members v false) (tagged c.args.tag (at (nodes_of p) v)) _ (task_at p v) c.if-is_member.true (search rules) (search rules)
