-- A common multiple of the periods of claims.
--   Periodic cs           the periods of all the claims cs divide a belt cycle
--   MultipleOf cs m       m is a multiple of each of them
--   LeastMultiple cs m    m is so and divides a belt cycle, and divides whatever else is so too
use Rattle.std.specs.Prelude.{◌≡◌, ℕ, ◌%◌, List}
use Rattle.std.specs.List.{All}
use Rattle.claim.specs.declared.claim.Claim.{Claim}

abbrev pub Periodic : List Claim → Type 0
Periodic cs = All (λ (c : Claim). 14400 % c.period ≡ 0) cs

abbrev pub MultipleOf : List Claim → ℕ → Type 0
MultipleOf cs m = All (λ (c : Claim). m % c.period ≡ 0) cs

pub record LeastMultiple (cs : List Claim) (m : ℕ) : Type 0 where
  pub multiple : MultipleOf cs m
  pub within : 14400 % m ≡ 0
  pub least : (k : ℕ) → 14400 % k ≡ 0 → MultipleOf cs k → k % m ≡ 0
