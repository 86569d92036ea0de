-- What one placed job asks of one engine.
--   Window                the window of a sub-task, counted from an arrival, and its ticks
--   Pattern               a period, a deadline, and for each branch the windows of the sub-tasks that it reaches on the engine
--   WellFormed p          the deadline is at least 1 and at most the period, there is a branch, and every window lies before the deadline
--   share u y w           the ticks of w where its window lies between u and y after the arrival, else 0
--   inner ws u y          the ticks of the windows ws that lie between u and y after the arrival
--   Arrival               when a job arrives, and the branch that this arrival takes
--   Arrivals p as         each arrival comes at least a period after the one before, and has one of the branches
--   demand_in p as x y    the ticks of all windows of the arrivals that lie between x and y
--   Greatest p n d        d is the greatest of these over all arrivals and all stretches of n ticks
use Rattle.std.specs.Prelude.{◌≡◌, ℕ, ◌+◌, ◌-◌, ◌<◌, ◌≤◌, cond, ◌&&◌, List, [], ◌∷◌, length, sum_by, nat_le, slice_index_or}
use Rattle.std.specs.List.{AllByRecursion}

pub record Window : Type 0 where
  pub offset : ℕ
  pub deadline : ℕ
  pub ticks : ℕ

pub record Pattern : Type 0 where
  pub period : ℕ
  pub deadline : ℕ
  pub branches : List (List Window)

pub record FitsIn (d : ℕ) (w : Window) : Type 0 where
  pub opens : w.offset < w.deadline
  pub closes : w.deadline ≤ d

pub record WellFormed (p : Pattern) : Type 0 where
  pub some_time : 1 ≤ p.deadline
  pub within_period : p.deadline ≤ p.period
  pub some_branch : 0 < length p.branches
  pub windows : AllByRecursion (AllByRecursion (FitsIn p.deadline)) p.branches

abbrev pub share : ℕ → ℕ → Window → ℕ
share u y w = cond (nat_le u w.offset && nat_le w.deadline y) w.ticks 0

abbrev pub inner : List Window → ℕ → ℕ → ℕ
inner ws u y = sum_by (share u y) ws

pub record Arrival : Type 0 where
  pub time : ℕ
  pub branch : ℕ

-- arrivals at t or later
abbrev pub From : Pattern → ℕ → List Arrival → Type 0
From p t [] = Unit {0}
From p t (a ∷ rest) = (t ≤ a.time) × (a.branch < length p.branches) × From p (a.time + p.period) rest

abbrev pub Arrivals : Pattern → List Arrival → Type 0
Arrivals p arrivals = From p 0 arrivals

abbrev pub part : Pattern → ℕ → ℕ → Arrival → ℕ
part p x y a = inner (slice_index_or p.branches a.branch []) (x - a.time) (y - a.time)

abbrev pub demand_in : Pattern → List Arrival → ℕ → ℕ → ℕ
demand_in p arrivals x y = sum_by (part p x y) arrivals

pub record Greatest (p : Pattern) (n d : ℕ) : Type 0 where
  pub bound : (arrivals : List Arrival) (x : ℕ) → Arrivals p arrivals → demand_in p arrivals x (x + n) ≤ d
  pub attained : (arrivals : List Arrival) × (x : ℕ) × Arrivals p arrivals × (demand_in p arrivals x (x + n) ≡ d)
