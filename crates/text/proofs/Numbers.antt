-- Numbers in decimal, of at most nine digits.
use Rattle.std.proofs.Common.{◌≡◌, ℕ, zero, suc, ◌^◌, ◌<◌, ◌≤◌, List, [], ◌∷◌, length, get_or, take, decimal, sym, ap, ◌∙◌, subst, inl, inr, arith}
use Rattle.std.specs.Str.Parse.{digits_value, AllDigits}
use Rattle.std.specs.Char.{digit_value}
use Rattle.std.proofs.lemmas.Bool.{cases_eq}
use Rattle.std.proofs.lemmas.Str.Parse.{IsNumeralModel, numerals_by_value, tells_digits, digits_value_short}
use Rattle.std.proofs.lemmas.Fmt.{decimal_is_IsNumeral, decimal_digit, decimal-digits_value, length-decimal-le, first_decimal, decimal_injective}
use Rattle.text.specs.Value.{Numeral}

abbrev pub Short : List ℕ → Type 0
Short bs = (0 < length bs) × (length bs ≤ 9) × (get_or bs 0 0 ≡ 48 → length bs ≡ 1)

own : IsNumeralModel (AllDigits 10) (digits_value 10)
own = numerals_by_value (AllDigits 10) tells_digits

short_decimal : (n : ℕ) → n < 1000000000 → Short (decimal n)
short_decimal n l =
    let big : n < 2 ^ 64 = omega arith in (
      (decimal_is_IsNumeral n big).0.0,
      length-decimal-le 9 n (omega arith) (omega arith) big,
      λ e. elim (cases_eq n 0) [
        | inl z ↦ subst (λ m. length (decimal m) ≡ 1) (sym z) (ap length (decimal_digit 0 (omega arith)))
        | inr p ↦ omega (arith, first_decimal n (omega arith) big)
      ],
    )

pub numeral_short : (n : ℕ) (bs : List ℕ) → Numeral n bs → Short bs
numeral_short n bs w = subst Short (sym w.written) (short_decimal n w.small)

pub numeral_digits : (n : ℕ) (bs : List ℕ) → Numeral n bs → AllDigits 10 bs
numeral_digits n bs w = subst (AllDigits 10) (sym w.written) (decimal_is_IsNumeral n (omega (arith, w.small))).0.1

pub numeral_from : (bs : List ℕ) → Short bs → AllDigits 10 bs → Numeral (digits_value 10 bs) bs
numeral_from bs s d =
    let low = digits_value_short own bs 9 d s.1 in
    record { small = omega arith; written = sym (decimal-digits_value own bs d s.0 s.2 (omega arith)) }

pub numeral_same : (m n : ℕ) (bs : List ℕ) → Numeral m bs → Numeral n bs → m ≡ n
numeral_same m n bs v w = decimal_injective m n (omega (arith, v.small)) (omega (arith, w.small)) (sym v.written ∙ w.written)

pub digit_in : (bs : List ℕ) (i : ℕ) → AllDigits 10 bs → i < length bs → digit_value (get_or bs i 0) < 10
digit_in [] i d l = omega arith
digit_in (b ∷ bs) zero d l = d.0
digit_in (b ∷ bs) (suc i) d l = digit_in bs i d.1 (omega arith)

-- the number so far stays small enough for one more digit
pub front_low : (bs : List ℕ) (i : ℕ) → i < 9 → AllDigits 10 (take i bs) → length (take i bs) ≤ i → digits_value 10 (take i bs) < 100000000
front_low bs i l d s = omega (arith, digits_value_short own (take i bs) 8 d (omega arith))
