-- What the tables of a claim give.
--   whole_ones c y      how many whole arrivals come after the first one up to y after it
--   given_later c y     the most that the arrivals after one ask up to y after it
--   given_at c n k      the most in n ticks from the moment of the cut k
--   given c n           the most in n ticks
--   ended es y          how many of the ends es are at most y
--   step values n       the n-th of the values, and 0 before the first
--   reach_of c y        the ends that an arrival has passed up to y after it, the whole ones after it, and the ends that the last one has passed
--   Begins c y b        from b after an arrival up to y after it, it is the same
--   all_due c           when all that an arrival asks has fallen due
--   Steady c b          in b ticks or more, a period more asks for one whole arrival more
use Rattle.std.specs.Prelude.{◌≡◌, ◌≤◌, ℕ, ◌+◌, ◌-◌, ◌*◌, ◌/◌, max, List, ◌∷◌, count_by, nat_le, slice_index_or}
use Rattle.few.specs.Few.{items}
use Rattle.claim.specs.declared.asking.Reach.{Reach}
use Rattle.claim.specs.declared.claim.Claim.{Claim}
use Rattle.claim.specs.declared.claim.Cut.{Cut}
use Rattle.claim.specs.Claim.{by_end}
use Rattle.theory.specs.Demand.{greatest}

abbrev pub whole_ones : Claim → ℕ → ℕ
whole_ones c y = (y - c.deadline) / c.period

abbrev pub given_later : Claim → ℕ → ℕ
given_later c y = whole_ones c y * c.whole + by_end c c.arrival (y - (whole_ones c y + 1) * c.period)

abbrev pub given_at : Claim → ℕ → Cut → ℕ
given_at c n k = by_end c k (k.«from» + n) + given_later c (k.«from» + n)

abbrev pub given : Claim → ℕ → ℕ
given c n = max (given_at c n c.arrival) (greatest (given_at c n) (items c.cuts))

abbrev pub ended : List ℕ → ℕ → ℕ
ended es y = count_by (λ e. nat_le e y) es

abbrev pub step : List ℕ → ℕ → ℕ
step values n = slice_index_or (0 ∷ values) n 0

abbrev pub reach_of : Claim → ℕ → Reach
reach_of c y = record {
  first = ended (items c.ends) y;
  wholes = whole_ones c y;
  last = ended (items c.ends) (y - (whole_ones c y + 1) * c.period);
}

pub record Begins (c : Claim) (y b : ℕ) : Type 0 where
  pub within : b ≤ y
  pub same : (z : ℕ) → b ≤ z → z ≤ y → reach_of c z ≡ reach_of c y

abbrev pub all_due : Claim → ℕ
all_due c = max c.deadline (greatest (λ e. e) (items c.ends))

abbrev pub Steady : Claim → ℕ → Type 0
Steady c b = (n : ℕ) → b ≤ n → given c (n + c.period) ≡ given c n + c.whole
