-- What a caller in C gets.
--   Hands IsRight old n new    bytes that are right are written into the buffer if they fit, with n as Writes says; or memory is wanting, the buffer is as it was, and n is the least number of 64 bits
use Rattle.std.specs.Prelude.{◌≡◌, ℕ, ◌^◌, ◌⊎◌, List, ℤ, pos, neg_ℤ}
use Rattle.capi.specs.Writing.{Writes}

abbrev pub Hands : (List ℕ → Type 0) → List ℕ → ℤ → List ℕ → Type 0
Hands IsRight old n new =
    ((bs : List ℕ) × IsRight bs × Writes bs old n new)
    ⊎ ((n ≡ neg_ℤ (pos (2 ^ 63))) × (new ≡ old))
