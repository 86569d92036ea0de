-- The fit test of an engine, whose supply in n ticks is s n.
--   given_of_all cs n    the most in n ticks, of all the claims cs
--   Kept cs plateaus     each of the plateaus is of the claim at its place, if there is one
--   Short s cs n         in n ticks the claims cs ask more than is served
--   Fits s ps            in no number of ticks the patterns ps ask more than is served
--   LeastFor s d m       m is the least number of ticks in which d are served
--   in_cycle c           what the whole arrivals of a belt cycle ask, a period apart
--   Paced cs             those of all the claims cs ask no more than a belt cycle
use Rattle.std.specs.Prelude.{◌≡◌, ℕ, ◌*◌, ◌/◌, ◌<◌, ◌≤◌, List, Some, slice_get, sum_by}
use Rattle.claim.specs.declared.claim.Claim.{Claim}
use Rattle.claim.specs.declared.plateau.Plateau.{Plateau}
use Rattle.claim.specs.Asking.{given}
use Rattle.claim.specs.Plateau.{Level}
use Rattle.theory.specs.Demand.{demand_of_all}
use Rattle.theory.specs.Pattern.{Pattern}

abbrev pub given_of_all : List Claim → ℕ → ℕ
given_of_all cs n = sum_by (λ c. given c n) cs

abbrev pub Kept : List Claim → List Plateau → Type 0
Kept cs plateaus = (i : ℕ) (c : Claim) (a : Plateau) → slice_get cs i ≡ Some c → slice_get plateaus i ≡ Some a → Level (given c) a

abbrev pub Short : (ℕ → ℕ) → List Claim → ℕ → Type 0
Short s cs n = s n < given_of_all cs n

abbrev pub Fits : (ℕ → ℕ) → List Pattern → Type 0
Fits s ps = (n : ℕ) → demand_of_all ps n ≤ s n

pub record LeastFor (s : ℕ → ℕ) (d m : ℕ) : Type 0 where
  pub enough : d ≤ s m
  pub least : (k : ℕ) → k < m → s k < d

abbrev pub in_cycle : Claim → ℕ
in_cycle c = c.whole * (14400 / c.period)

abbrev pub Paced : List Claim → Type 0
Paced cs = sum_by in_cycle cs ≤ 14400
