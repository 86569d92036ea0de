-- The least of some values.
--   least f m    the least of f 0, f 1, .. f m
use Rattle.std.specs.Prelude.{ℕ, zero, suc, min}

unfoldable pub least : (ℕ → ℕ) → ℕ → ℕ
least f zero = f 0
least f (suc m) = min (least f m) (f (suc m))
