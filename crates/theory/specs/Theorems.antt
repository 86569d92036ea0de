-- The theorems of the demand.
--   DemandIsGreatest    the closed form is the greatest total over all arrivals, branches and stretches
--   GreatestIsOne       there is only one greatest total
--   DemandIsMet         it is met in any stretch that begins at the deadline or later, by arrivals before its end: so all jobs of an engine can meet theirs at once
--   DemandIsQuick       the quick form is the closed form
--   DemandGrows         more ticks ask no less; AllGrow says so of several patterns
--   DemandSettles       past the deadline, m periods more ask for m whole arrivals more, and m periods ask for at least m
--   SettlesAll h r      where all periods divide h and the supply of two stretches is no more than that of both in a row, r ticks settle every number of them
--   TwiceSettlesAll     for each h of at least 1, twice h ticks do so
use Rattle.std.specs.Prelude.{◌≡◌, ℕ, ◌+◌, ◌*◌, ◌%◌, ◌<◌, ◌≤◌, List}
use Rattle.std.specs.List.{AllByRecursion}
use Rattle.theory.specs.Pattern.{Pattern, WellFormed, Arrival, Arrivals, demand_in, Greatest}
use Rattle.theory.specs.Demand.{demand, whole, demand_of_all, later, later_quick, demand_quick}

abbrev pub DemandIsGreatest : Type 0
DemandIsGreatest = (p : Pattern) → WellFormed p → (n : ℕ) → Greatest p n (demand p n)

abbrev pub GreatestIsOne : Type 0
GreatestIsOne = (p : Pattern) (n d e : ℕ) → Greatest p n d → Greatest p n e → d ≡ e

abbrev pub DemandIsMet : Type 0
DemandIsMet =
    (p : Pattern) → WellFormed p → (n x : ℕ) → p.deadline ≤ x
    → (arrivals : List Arrival) × Arrivals p arrivals × AllByRecursion (λ a. a.time ≤ x + n) arrivals × (demand_in p arrivals x (x + n) ≡ demand p n)

abbrev pub DemandIsQuick : Type 0
DemandIsQuick = (p : Pattern) → WellFormed p → ((y : ℕ) → later p y ≡ later_quick p y) × ((n : ℕ) → demand p n ≡ demand_quick p n)

abbrev pub DemandGrows : Type 0
DemandGrows = (p : Pattern) → WellFormed p → (m n : ℕ) → m ≤ n → demand p m ≤ demand p n

abbrev pub AllGrow : Type 0
AllGrow = (ps : List Pattern) → AllByRecursion WellFormed ps → (m n : ℕ) → m ≤ n → demand_of_all ps m ≤ demand_of_all ps n

pub record Settles (p : Pattern) (m : ℕ) : Type 0 where
  pub later_on : (n : ℕ) → p.deadline ≤ n → demand p (n + m * p.period) ≡ demand p n + m * whole p
  pub at_least : m * whole p ≤ demand p (m * p.period)

abbrev pub DemandSettles : Type 0
DemandSettles = (p : Pattern) → WellFormed p → (m : ℕ) → Settles p m

abbrev pub SettlesAll : ℕ → ℕ → Type 0
SettlesAll h r =
    (ps : List Pattern) → AllByRecursion WellFormed ps → AllByRecursion (λ p. h % p.period ≡ 0) ps
    → (s : ℕ → ℕ) → ((a b : ℕ) → s a + s b ≤ s (a + b))
    → ((n : ℕ) → 0 < n → n ≤ r → demand_of_all ps n ≤ s n) → (n : ℕ) → demand_of_all ps n ≤ s n

abbrev pub TwiceSettlesAll : Type 0
TwiceSettlesAll = (h : ℕ) → 1 ≤ h → SettlesAll h (2 * h)
