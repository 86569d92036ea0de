use Rattle.std.proofs.Common.{rules, ◌≡◌, ℕ, ◌<◌, length, take, get_or, ap, ◌∙◌, arith}
use Rattle.few.specs.Few.{items}
use Rattle.few.proofs.Filled.{filled}
use Rattle.dispatch.specs.declared.slot.Open.{Open}
use Rattle.dispatch.specs.declared.sub_task.SubTask.{SubTask}
use Rattle.dispatch.specs.Opening.{opened_at}
use Rattle.dispatch.proofs.Sweep.{take_reads}
use Rattle.dispatch.proofs.slot.Slot.opened.Goals as goal

pub returns-clause-tasks : goal.returns-clause-tasks
returns-clause-tasks c =
    let ws = items c.args.tasks.now in
    let t = c.args.clock in
    let given = c.as_slice-opened.ensures.items in
    let few = c.as_slice-opened.ensures.few in
    let P : ℕ → Open → Type 0 = λ i y. (d : SubTask) → i < length ws → y ≡ opened_at t (get_or ws i d) in
    let each = λ (i : ℕ) (d : SubTask) (e : Open) (low : i < length ws). filled c.from_fn.ensures.items P (λ j y f' short called. (λ v below. (let is : y ≡ opened_at t (get_or c.as_slice-opened.result.now j v) = search rules in is ∙ ap (λ l. opened_at t (get_or l j v)) given), search rules)) i e (omega (arith, few, ap length given)) d low in
    ap (λ n. take n c.from_fn.result) c.len.ensures ∙ take_reads (opened_at t) ws c.from_fn.result (omega (arith, few, ap length given, c.from_fn.ensures.items.long)) each
