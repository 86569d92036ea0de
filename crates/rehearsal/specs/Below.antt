-- The first numbers.
--   below n    the numbers below n, by rising number
use Rattle.std.specs.Prelude.{ℕ, List}
use Rattle.std.specs.List.{range_with_len}

unfoldable pub below : ℕ → List ℕ
below n = range_with_len 0 n
