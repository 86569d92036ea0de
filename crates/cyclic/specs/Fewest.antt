-- The fewest true marks among so many in a row.
--   fewest marks n    the least of ones marks i n over the places i of the marks
use Rattle.std.specs.Prelude.{ℕ, ◌-◌, Bool, List, length}
use Rattle.cyclic.specs.Ones.{ones}
use Rattle.cyclic.specs.Least.{least}

unfoldable pub fewest : List Bool → ℕ → ℕ
fewest marks n = least (λ i. ones marks i n) (length marks - 1)
