-- The greatest of some values.
--   greatest p f n    the greatest of f k over the k below n that pass the test p, or 0
use Rattle.std.specs.Prelude.{ℕ, zero, suc, max, Bool, cond}

unfoldable pub greatest : (ℕ → Bool) → (ℕ → ℕ) → ℕ → ℕ
greatest p f zero = 0
greatest p f (suc n) = max (greatest p f n) (cond (p n) (f n) 0)
