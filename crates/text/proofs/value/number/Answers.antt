use Rattle.std.specs.Char.{digit_value}
use Rattle.std.proofs.Common.{rules, ◌≡◌, ◌<◌, get_or, sym, ap, ◌∙◌, subst, arith}
use Rattle.std.specs.Str.Parse.{digits_value, AllDigits}
use Rattle.std.proofs.lemmas.Int.Digits.{digits_value_more, digits_more}
use Rattle.std.proofs.lemmas.List.{take_all, length-take}
use Rattle.std.proofs.lemmas.Bool.{both_ways}
use Rattle.text.specs.Value.{Numeral}
use Rattle.text.proofs.Numbers.{Short, numeral_short, numeral_digits, numeral_from, digit_in, front_low}
use Rattle.text.proofs.value.number.Goals as goal

digit_low : (c : goal.In_ok-digit) → (c.in_ok-digit.digit ≡ digit_value (get_or c.args.bytes.now c.loop-byte.byte-index 0)) × (c.in_ok-digit.digit < 10)
digit_low c = search rules

low : (c : goal.In_ok-digit) → c.loop-byte.number < 100000000
low c =
    let short : Short c.args.bytes.now = c.is_short.ensures.0 c.if-not-is_short.false in
    let len = length-take c.loop-byte.byte-index c.args.bytes.now in
    let few : c.loop-byte.byte-index < 9 = omega (arith, c.loop-byte-test.true, short.1) in
    omega (arith, c.loop-byte.invariant.0, front_low c.args.bytes.now c.loop-byte.byte-index few c.loop-byte.invariant.1 (omega arith))

pub overflow_mul-number : goal.overflow_mul-number
overflow_mul-number c = omega (arith, low c)

pub overflow_add-number : goal.overflow_add-number
overflow_add-number c = omega (arith, low c, (digit_low c).1)

pub returns-then-not-is_short : goal.returns-then-not-is_short
returns-then-not-is_short c = λ n w. both_ways _ c.if-not-is_short.true (c.is_short.ensures.1 (numeral_short n c.args.bytes.now w))

pub returns-in_err-digit : goal.returns-in_err-digit
returns-in_err-digit c =
    let none : digit_value (get_or c.args.bytes.now c.loop-byte.byte-index 0) < 10 → ⊥ = search rules in
    rw c.from_residual.ensures (λ n w. none (digit_in c.args.bytes.now c.loop-byte.byte-index (numeral_digits n c.args.bytes.now w) c.loop-byte-test.true))

pub loop-byte-preserved : goal.loop-byte-preserved
loop-byte-preserved c =
    let bs = c.args.bytes.now in
    let i = c.loop-byte.byte-index in
    let is = digit_low c in (
      cc (digits_value_more 10 bs i c.loop-byte-test.true, c.loop-byte.invariant.0, is.0),
      digits_more 10 bs i c.loop-byte-test.true c.loop-byte.invariant.1 (subst (λ d. d < 10) is.0 is.1),
    )

pub returns : goal.returns
returns c =
    let bs = c.args.bytes.now in
    let all = take_all c.loop-byte.byte-index bs c.loop-byte-test.false in
    let digits : AllDigits 10 bs = subst (AllDigits 10) all c.loop-byte.invariant.1 in
    let is : digits_value 10 bs ≡ c.loop-byte.number = sym (c.loop-byte.invariant.0 ∙ ap (digits_value 10) all) in
    subst (λ n. Numeral n bs) is (numeral_from bs (c.is_short.ensures.0 c.if-not-is_short.false) digits)
