-- Closed forms of the demand.
--   greatest f xs, greatest_below f n    the greatest value on a list; below a number
--   sum_to f m                           f 1 + f 2 + .. + f m
--   best p u y          the most that one arrival can ask between u and y after it
--   later p y           the most that the arrivals after one can ask up to y after it, a period apart
--   at_cut p n u        the most in n ticks that begin u after an arrival
--   demand p n          the most in n ticks: the greatest over the cuts below the deadline
--   whole p             the most that one whole arrival asks
--   demand_of_all ps n  what several patterns ask together
--   wholes, later_quick, at_cut_quick, demand_quick    the same in few steps: whole arrivals by a division, and cuts only at 0 and the offsets
use Rattle.std.specs.Prelude.{ℕ, zero, suc, ◌+◌, ◌-◌, ◌*◌, ◌/◌, max, List, [], ◌∷◌, sum_by}
use Rattle.theory.specs.Pattern.{Pattern, inner}

abbrev pub greatest : {X : Type 0} → (X → ℕ) → List X → ℕ
greatest f [] = 0
greatest f (x ∷ xs) = max (f x) (greatest f xs)

abbrev pub greatest_below : (ℕ → ℕ) → ℕ → ℕ
greatest_below f zero = 0
greatest_below f (suc d) = max (greatest_below f d) (f d)

abbrev pub sum_to : (ℕ → ℕ) → ℕ → ℕ
sum_to f zero = 0
sum_to f (suc m) = f 1 + sum_to (λ k. f (suc k)) m

abbrev pub best : Pattern → ℕ → ℕ → ℕ
best p u y = greatest (λ ws. inner ws u y) p.branches

abbrev pub later : Pattern → ℕ → ℕ
later p y = sum_to (λ k. best p 0 (y - k * p.period)) y

abbrev pub at_cut : Pattern → ℕ → ℕ → ℕ
at_cut p n u = best p u (u + n) + later p (u + n)

abbrev pub demand : Pattern → ℕ → ℕ
demand p n = greatest_below (at_cut p n) p.deadline

abbrev pub whole : Pattern → ℕ
whole p = best p 0 p.deadline

abbrev pub demand_of_all : List Pattern → ℕ → ℕ
demand_of_all ps n = sum_by (λ p. demand p n) ps

abbrev pub wholes : Pattern → ℕ → ℕ
wholes p y = (y - p.deadline) / p.period

abbrev pub later_quick : Pattern → ℕ → ℕ
later_quick p y = wholes p y * whole p + best p 0 (y - (wholes p y + 1) * p.period)

abbrev pub at_cut_quick : Pattern → ℕ → ℕ → ℕ
at_cut_quick p n u = best p u (u + n) + later_quick p (u + n)

abbrev pub demand_quick : Pattern → ℕ → ℕ
demand_quick p n = max (at_cut_quick p n 0) (greatest (λ ws. greatest (λ w. at_cut_quick p n w.offset) ws) p.branches)
