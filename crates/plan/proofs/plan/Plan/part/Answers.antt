use Rattle.std.proofs.Common.{◌≡◌, ℕ, ◌+◌, ◌≤◌, Bool, List, [], ◌∷◌, ◌++◌, false, ◌&&◌, map, length, get_or, sym, ap, subst, arith, rules}
use Rattle.std.proofs.lemmas.List.{length_push}
use Rattle.few.specs.Few.{items}
use Rattle.plan.specs.declared.part.Task.{Task}
use Rattle.plan.specs.Part.{tagged, task_at, tasks_below}
use Rattle.plan.specs.Plan.{nodes_of}
use Rattle.plan.proofs.Formed.{task_light}
use Rattle.plan.proofs.Gathering.{given_some, given_none, gather_on, gather_skip, bound_push}
use Rattle.task.specs.Graph.{at}
use Rattle.plan.proofs.plan.Plan.part.Goals as goal
use Rattle.plan.proofs.plan.Plan.part.Goals.{in-Some, in_default}

pub loop-v-init : goal.loop-v-init
loop-v-init c = let none = c.new-tasks.ensures in (omega (arith, ap length none), none, λ k. omega (arith, ap (λ l. get_or (map (λ (x : Task). x.ticks) l) k 0) none))

pub loop-v-preserved : goal.loop-v-preserved
loop-v-preserved c =
    let p = c.args.self.now in
    let t : ℕ → Bool = λ v. get_or p.members v false && tagged c.args.tag (at (nodes_of p) v) in
    let inv = c.loop-v.invariant in
    let v = c.loop-v.v in
    let was = items c.loop-v.tasks in
    let Kept : List Task → Type 0 = λ l. (length l ≤ v + 1) × (l ≡ tasks_below p t (v + 1)) × ((k : ℕ) → get_or (map (λ (x : Task). x.ticks) l) k 0 ≤ 14400) in
    elim c.match-task.branch [
      | in-Some w ↦
          let task = w.in-Some.task in
          let found = given_some (t v) (task_at p v) task c.task.result c.task.ensures w.in-Some.is in
          let put : items c.match-task.tasks ≡ was ++ task ∷ [] = search rules in
          subst Kept (sym put) (
            omega (arith, inv.0, length_push was task),
            gather_on p t v was inv.1 found.0 task found.1,
            bound_push (λ (x : Task). x.ticks) 14400 was task inv.2 (omega (arith, ap (λ (x : Task). x.ticks) found.1, task_light p v)),
          )
      | in_default w ↦
          subst Kept (sym (ap items w.tasks-is)) (
            omega (arith, inv.0),
            gather_skip p t v was inv.1 (given_none (t v) (task_at p v) c.task.result c.task.ensures w.in_default.is),
            inv.2,
          )
    ]
