-- The numbers of 64 bits that a caller is told.
use Rattle.std.proofs.Common.{◌≡◌, ℕ, zero, suc, ◌^◌, ◌<◌, ◌≤◌, List, ◌++◌, drop, length, SFits, w64, pos, neg_ℤ, ◌-ℤ◌, to_z, of_z, ap, sym, subst, ◌∙◌, arith}
use Rattle.capi.specs.Writing.{Writes, fits, short}
use Rattle.std.proofs.Math.Facts.{to_z-of_z, to_z_pos}
use Rattle.std.proofs.Math.IntN.{+ℤ_idl}

told : (n : ℕ) → n < 2 ^ 63 → to_z w64 n ≡ pos n
told n small = to_z_pos w64 small

small_enough : (n : ℕ) → n < 2 ^ 63 → SFits w64 (neg_ℤ (pos n))
small_enough zero small = record { sfits = omega arith }
small_enough (suc n) small = record { sfits = omega (arith, small) }

negated : (n : ℕ) → n < 2 ^ 63 → to_z w64 (of_z w64 (pos 0 -ℤ to_z w64 n)) ≡ neg_ℤ (pos n)
negated n small =
    ap (λ z. to_z w64 (of_z w64 z)) (ap (λ z. pos 0 -ℤ z) (told n small) ∙ +ℤ_idl (neg_ℤ (pos n)))
    ∙ to_z-of_z (small_enough n small)

pub they_fit : (bs old : List ℕ) → length bs < 2 ^ 63 → length bs ≤ length old → Writes bs old (to_z w64 (length bs)) (bs ++ drop (length bs) old)
they_fit bs old small room = subst (λ z. Writes bs old z (bs ++ drop (length bs) old)) (sym (told (length bs) small)) (fits room)

pub they_are_many : (bs old : List ℕ) → length bs < 2 ^ 63 → length old < length bs → Writes bs old (to_z w64 (of_z w64 (pos 0 -ℤ to_z w64 (length bs)))) old
they_are_many bs old small many = subst (λ z. Writes bs old z old) (sym (negated (length bs) small)) (short many small)
