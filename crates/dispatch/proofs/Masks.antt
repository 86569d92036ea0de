-- A mask has no bits but those of 16 engines.
use Rattle.std.proofs.Common.{◌≡◌, ℕ, zero, suc, ◌+◌, ◌-◌, ◌/◌, ◌^◌, ◌<◌, ◌≤◌, false, ◌==◌, ap, ◌∙◌, arith}
use Rattle.std.proofs.lemmas.Nat.Bits.{bit_at-suc, bit_at-zero}
use Rattle.std.specs.Int.{bit_at}
use Rattle.dispatch.specs.Ticking.{masked}

none_past : (k n j : ℕ) → n < 2 ^ k → bit_at n (k + j) ≡ 0
none_past zero n j low = let none : n ≡ 0 = omega (arith, low) in ap (λ m. bit_at m (0 + j)) none ∙ bit_at-zero (0 + j)
none_past (suc k) n j low =
    let half : n / 2 < 2 ^ k = omega (arith, low) in
    let place : suc k + j ≡ suc (k + j) = omega arith in
    ap (bit_at n) place ∙ (bit_at-suc n (k + j) ∙ none_past k (n / 2) j half)

pub unmasked : (m e : ℕ) → m < 65536 → 16 ≤ e → masked m e ≡ false
unmasked m e low past =
    let place : e ≡ 16 + (e - 16) = omega arith in
    ap (λ i. bit_at m i == 1) place ∙ ap (λ b. b == 1) (none_past 16 m (e - 16) (omega (arith, low)))
