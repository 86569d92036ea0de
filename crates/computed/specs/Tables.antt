-- Tables of values, one for each number from 0 on.
--   some_below p n         some number below n passes the test p
--   each f n               f 0, f 1, .. up to n values
--   after_all d f v t      the table t of the numbers below v, and the value that f makes of it for v
--   rising d f n           n values, each made by f of those before it and of its number; d stands where there is none
--   before_all d f v t     the value that f makes for v of the table t of the numbers after v, and that table
--   falling d f v n        the values of the n numbers from v on, each made by f of those after it and of its number
-- A table is handed to a function of its own before it is read, since it is then computed only once.
use Rattle.std.specs.Prelude.{ℕ, zero, suc, ◌-◌, Bool, false, ◌||◌, List, [], ◌∷◌, ◌++◌, map, slice_index_or}
use Rattle.std.specs.List.{range_with_len}

unfoldable pub some_below : (ℕ → Bool) → ℕ → Bool
some_below p zero = false
some_below p (suc n) = some_below p n || p n

unfoldable pub each : {X : Type 0} → (ℕ → X) → ℕ → List X
each f n = map f (range_with_len 0 n)

abbrev pub after_all : {X : Type 0} → X → ((ℕ → X) → ℕ → X) → ℕ → List X → List X
after_all d f v t = t ++ f (λ u. slice_index_or t u d) v ∷ []

unfoldable pub rising : {X : Type 0} → X → ((ℕ → X) → ℕ → X) → ℕ → List X
rising d f zero = []
rising d f (suc n) = after_all d f n (rising d f n)

abbrev pub before_all : {X : Type 0} → X → ((ℕ → X) → ℕ → X) → ℕ → List X → List X
before_all d f v t = f (λ u. slice_index_or t (u - suc v) d) v ∷ t

unfoldable pub falling : {X : Type 0} → X → ((ℕ → X) → ℕ → X) → ℕ → ℕ → List X
falling d f v zero = []
falling d f v (suc n) = before_all d f v (falling d f (suc v) n)
