use Rattle.std.proofs.Common.{rules, ◌≡◌, ◌+◌, [], ◌∷◌, ◌≢◌, eqb, length, sym, subst}
use Rattle.std.proofs.lemmas.Iterator.Consumers.{YieldsList-at, YieldsList-end, YieldsList-turn}
use Rattle.std.proofs.lemmas.Iterator.Splits.{YieldsList-from_slice_split}
use Rattle.std.proofs.lemmas.List.{length_push}
use Rattle.text.proofs.Gathering.{Gathered, gathered_all, gathered_more, gathered_none, gathers_none, no_number, no_rise}
use Rattle.text.proofs.value.list.Goals as goal

pub returns-then-eq : goal.returns-then-eq
returns-then-eq c = let dash : c.args.bytes.now ≡ 45 ∷ [] = search rules in gathers_none c.args.bytes.now dash

pub loop-part-init : goal.loop-part-init
loop-part-init c = gathered_none c.args.bytes.now

pub returns-in_err-number : goal.returns-in_err-number
returns-in_err-number c =
    let other : c.args.bytes.now ≢ 45 ∷ [] = search rules in
    let turn =
    YieldsList-turn
    (YieldsList-at c.into_iter-part-iterator.ensures.into_iter_gives
    (YieldsList-from_slice_split _ (λ b. eqb b 44) c.args.bytes.now c.split-part-items.ensures.rest c.split-part-items.ensures.done c.split-part-items.ensures.closure (λ x b q k. search rules)))
    c.loop-part.yielded _ c.loop-part.yielded_by _ _ c.in-Some.part c.in-Some.is c.next.ensures.steps in
    rw c.from_residual.ensures (no_number _ _ _ _ other turn c.loop-part.invariant c.in_err-number.ensures)

pub returns-then-number-numbers : goal.returns-then-number-numbers
returns-then-number-numbers c =
    let other : c.args.bytes.now ≢ 45 ∷ [] = search rules in
    let turn =
    YieldsList-turn
    (YieldsList-at c.into_iter-part-iterator.ensures.into_iter_gives
    (YieldsList-from_slice_split _ (λ b. eqb b 44) c.args.bytes.now c.split-part-items.ensures.rest c.split-part-items.ensures.done c.split-part-items.ensures.closure (λ x b q k. search rules)))
    c.loop-part.yielded _ c.loop-part.yielded_by _ _ c.in-Some.part c.in-Some.is c.next.ensures.steps in
    no_rise _ _ _ _ other turn c.loop-part.invariant _ c.in_ok-number.ensures c.if-number-numbers.true

pub loop-part-preserved : goal.loop-part-preserved
loop-part-preserved c =
    let other : c.args.bytes.now ≢ 45 ∷ [] = search rules in
    let turn =
    YieldsList-turn
    (YieldsList-at c.into_iter-part-iterator.ensures.into_iter_gives
    (YieldsList-from_slice_split _ (λ b. eqb b 44) c.args.bytes.now c.split-part-items.ensures.rest c.split-part-items.ensures.done c.split-part-items.ensures.closure (λ x b q k. search rules)))
    c.loop-part.yielded _ c.loop-part.yielded_by _ _ c.in-Some.part c.in-Some.is c.next.ensures.steps in
    subst (λ k. Gathered c.args.bytes.now k c.push.new.self) (sym (length_push c.loop-part.yielded c.in-Some.part))
    (subst (Gathered c.args.bytes.now (length c.loop-part.yielded + 1)) (sym c.push.ensures)
    (gathered_more _ _ _ _ other turn c.loop-part.invariant _ c.in_ok-number.ensures c.if-number-numbers.false))

pub returns : goal.returns
returns c =
    let done =
    YieldsList-end
    (YieldsList-at c.into_iter-part-iterator.ensures.into_iter_gives
    (YieldsList-from_slice_split _ (λ b. eqb b 44) c.args.bytes.now c.split-part-items.ensures.rest c.split-part-items.ensures.done c.split-part-items.ensures.closure (λ x b q k. search rules)))
    c.loop-part.yielded _ c.loop-part.yielded_by _ _ c.in-None.is c.next.ensures.steps in
    gathered_all c.args.bytes.now (length c.loop-part.yielded) c.loop-part.numbers done.1 c.loop-part.invariant
