use Rattle.std.proofs.Common.{rules, ◌≡◌, [], ◌∷◌, ◌++◌, map, length, ap, ◌∙◌, arith}
use Rattle.std.specs.Option.{option_map}
use Rattle.std.proofs.lemmas.List.{length_push, map-append}
use Rattle.dispatch.specs.Opening.{sub_task}
use Rattle.few.specs.Few.{items}
use Rattle.plan.proofs.Gathering.{given_none, given_some}
use Rattle.running.specs.Reached.{is_reached, reached_at}
use Rattle.running.proofs.Reaching.{reached_below, reached_on, reached_skip}
use Rattle.running.proofs.reached.reached.Goals as goal
use Rattle.running.proofs.reached.reached.Goals.{in-Some, in_default}

pub loop-v-preserved : goal.loop-v-preserved
loop-v-preserved c =
    let r = c.args.resident.now in
    let row = c.args.row.now in
    let v = c.loop-v.v in
    let inv = c.loop-v.invariant in
    let was = items c.loop-v.tasks in
    elim c.match-reached_at.branch [
      | in-Some w ↦
          let task = w.in-Some.task in
          let put : items c.match-reached_at.tasks ≡ was ++ task ∷ [] = search rules in
          let found = given_some (is_reached r.plan row v) (reached_at r v) (sub_task task) (option_map sub_task c.reached_at.result) c.reached_at.ensures (ap (option_map sub_task) w.in-Some.is) in
          record {
            few = omega (arith, ap length put, length_push was task, inv.few);
            are = ap (map sub_task) put ∙ (map-append sub_task was (task ∷ []) ∙ (ap (λ l. l ++ sub_task task ∷ []) inv.are ∙ (ap (λ x. reached_below r row v ++ x ∷ []) found.1 ∙ reached_on r row v found.0)));
          }
      | in_default w ↦
          record {
            few = omega (arith, ap (λ t. length (items t)) w.tasks-is, inv.few);
            are = ap (λ t. map sub_task (items t)) w.tasks-is ∙ (inv.are ∙ reached_skip r row v (given_none (is_reached r.plan row v) (reached_at r v) (option_map sub_task c.reached_at.result) c.reached_at.ensures (ap (option_map sub_task) w.in_default.is)));
          }
    ]
