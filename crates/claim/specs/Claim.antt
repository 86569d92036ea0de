-- The tables of what a part asks.
--   stair ends most y    the greatest of the values most whose end, beside it, is at most y; or 0
--   by_end c k y         the most that falls due by y of what the cut k of the claim c looks at
--   Cuts p c k           the cut k of the claim c says what one arrival asks from its moment on
--   Claims p c           the tables c say what the pattern p asks
use Rattle.std.specs.Prelude.{◌≡◌, ℕ, max, cond, List, nat_le}
use Rattle.std.specs.List.{All, zip}
use Rattle.few.specs.Few.{items}
use Rattle.claim.specs.declared.claim.Claim.{Claim}
use Rattle.claim.specs.declared.claim.Cut.{Cut}
use Rattle.theory.specs.Demand.{at_cut, best, demand, greatest, whole}
use Rattle.theory.specs.Pattern.{Pattern}

abbrev pub stair : List ℕ → List ℕ → ℕ → ℕ
stair ends most y = greatest (λ (step : ℕ × ℕ). cond (nat_le step.0 y) step.1 0) (zip ends most)

abbrev pub by_end : Claim → Cut → ℕ → ℕ
by_end c k y = stair (items c.ends) k.most y

abbrev pub Cuts : Pattern → Claim → Cut → Type 0
Cuts p c k = (y : ℕ) → by_end c k y ≡ best p k.«from» y

pub record Claims (p : Pattern) (c : Claim) : Type 0 where
  pub its_period : c.period ≡ p.period
  pub its_deadline : c.deadline ≡ p.deadline
  pub its_whole : c.whole ≡ whole p
  pub at_arrival : c.arrival.«from» ≡ 0
  pub from_arrival : Cuts p c c.arrival
  pub from_cuts : All (Cuts p c) (items c.cuts)
  pub enough : (n : ℕ) → max (at_cut p n 0) (greatest (λ k. at_cut p n k.«from») (items c.cuts)) ≡ demand p n
