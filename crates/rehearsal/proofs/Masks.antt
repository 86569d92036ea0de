-- Setting a bit of a mask.
use Rattle.std.proofs.Common.{◌≡◌, ℕ, zero, suc, ◌+◌, ◌*◌, ◌%◌, ◌^◌, ◌<◌, Bool, true, false, refl, add-zero, zero-mul, ap, ◌∙◌, inl, inr, arith, pow-suc}
use native.Mathlib.Nat.{pow-le-pow_right}
use Rattle.std.proofs.lemmas.Bool.{cases_Bool}
use Rattle.std.proofs.lemmas.Nat.{or_disjoint}
use Rattle.std.proofs.lemmas.Nat.Bits.{and_pow, bit_at_above}
use Rattle.std.specs.Int.RustNames.{bit_or}
use Rattle.rehearsal.specs.Calls.{served_in}

served_small : (n : ℕ) (p : ℕ → Bool) → served_in n p < 2 ^ n
served_small zero p = omega arith
served_small (suc e) p =
    let rec = served_small e p in
    let twice = pow-suc 2 e in
    elim (cases_Bool (p e)) [ inl y ↦ rw y (omega arith) | inr n ↦ rw n (omega arith) ]

set_bit : (e : ℕ) (p : ℕ → Bool) → bit_or (served_in e p) (2 ^ e) ≡ served_in e p + 2 ^ e
set_bit e p =
    let none = bit_at_above (served_in e p) e e (served_small e p) (omega arith) in
    or_disjoint (served_in e p) (2 ^ e) (and_pow (served_in e p) e ∙ ap (λ b. b * 2 ^ e) none ∙ zero-mul (2 ^ e))

shifted : (e : ℕ) → e < 16 → 1 * 2 ^ e % 65536 ≡ 2 ^ e
shifted e below =
    let few = pow-le-pow_right {n = 2} (omega arith) {i = e} {j = 15} (omega arith) in
    omega arith

pub served_next : (e served : ℕ) (p : ℕ → Bool) → e < 16 → served ≡ served_in e p → p e ≡ true → bit_or served (1 * 2 ^ e % 65536) ≡ served_in (e + 1) p
served_next e served p below is yes' =
    let one : e + 1 ≡ suc e = omega arith in
    ap (bit_or served) (shifted e below) ∙ ap (λ s. bit_or s (2 ^ e)) is ∙ set_bit e p ∙ rw (one, yes') refl

pub served_same : (e served : ℕ) (p : ℕ → Bool) → served ≡ served_in e p → p e ≡ false → served ≡ served_in (e + 1) p
served_same e served p is no' =
    let one : e + 1 ≡ suc e = omega arith in
    is ∙ rw (one, no', add-zero) refl
