-- A string of marks that repeats without end.
--   mark marks k      1 where the mark at place k is true, else 0; after the last place comes the first again
--   ones marks i n    how many of the n marks from place i on are true
use Rattle.std.specs.Prelude.{ℕ, zero, suc, ◌+◌, ◌%◌, Bool, false, cond, List, length, slice_index_or}

unfoldable pub mark : List Bool → ℕ → ℕ
mark marks k = cond (slice_index_or marks (k % length marks) false) 1 0

unfoldable pub ones : List Bool → ℕ → ℕ → ℕ
ones marks i zero = 0
ones marks i (suc n) = ones marks i n + mark marks (i + n)
