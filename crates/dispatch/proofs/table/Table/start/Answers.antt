use Rattle.std.proofs.Common.{rules, ◌≡◌, ℕ, ◌≤◌, None, length, take, get_or, map, ap, ◌∙◌, arith}
use Rattle.few.specs.Few.{items}
use Rattle.few.proofs.Filled.{filled}
use Rattle.dispatch.specs.declared.slot.Slot.{Slot}
use Rattle.dispatch.specs.Slot.{slot_in_time}
use Rattle.dispatch.specs.Table.{slot_shown}
use Rattle.std.specs.List.{list_all}
use Rattle.dispatch.proofs.Arriving.{Idles, start_in_time, start_is}
use Rattle.dispatch.proofs.table.Table.start.Goals as goal

pub invariant_of-result : goal.invariant_of-result
invariant_of-result c =
    let ns = items c.args.jobs.now in
    let given = c.as_slice-numbers.ensures.items in
    let few = c.as_slice-numbers.ensures.few in
    let P : ℕ → Slot → Type 0 = λ i y. (y.job ≡ get_or ns i 0) × (y.last ≡ None) × (y.len ≡ 0) in
    let each : Idles ns c.from_fn.result = λ i d low. filled c.from_fn.ensures.items P (λ j y f' short called. (((let is : y.job ≡ get_or c.as_slice-numbers.result.now j 0 = search rules in is ∙ ap (λ l. get_or l j 0) given), search rules, search rules), search rules)) i d (omega (arith, few, ap length given)) in
    let inside : length ns ≤ length c.from_fn.result = omega (arith, few, ap length given, c.from_fn.ensures.items.long) in
    record {
      short = omega arith;
      counted = omega arith;
      few = omega (arith, c.len.ensures, few, ap length given);
      in_time = ap (λ n. list_all (slot_in_time 0) (take n c.from_fn.result)) c.len.ensures ∙ start_in_time 0 ns c.from_fn.result inside each;
    }

pub returns : goal.returns
returns c =
    let ns = items c.args.jobs.now in
    let given = c.as_slice-numbers.ensures.items in
    let few = c.as_slice-numbers.ensures.few in
    let P : ℕ → Slot → Type 0 = λ i y. (y.job ≡ get_or ns i 0) × (y.last ≡ None) × (y.len ≡ 0) in
    let each : Idles ns c.from_fn.result = λ i d low. filled c.from_fn.ensures.items P (λ j y f' short called. (((let is : y.job ≡ get_or c.as_slice-numbers.result.now j 0 = search rules in is ∙ ap (λ l. get_or l j 0) given), search rules, search rules), search rules)) i d (omega (arith, few, ap length given)) in
    let inside : length ns ≤ length c.from_fn.result = omega (arith, few, ap length given, c.from_fn.ensures.items.long) in
    let slots = ap (λ n. map slot_shown (take n c.from_fn.result)) c.len.ensures ∙ start_is ns c.from_fn.result inside each in
    λ i. record { clock = 0; slots = slots i; lates = 0 }
