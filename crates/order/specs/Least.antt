-- The least of a list, by a comparison.
--   FirstLeast cmp items i    i is the place of the least item, the first among equals: only one place is
use Rattle.std.specs.Prelude.{◌≡◌, ℕ, ◌<◌, false, List, length, slice_index_or}
use Rattle.std.specs.declared.cmp.Ordering.TheVariants.{Less}
use Rattle.std.specs.declared.cmp.Ordering.{Ordering}
use Rattle.std.specs.Ordering.{is_lt}

pub record FirstLeast {K : Type 0} (cmp : K → K → Ordering) (items : List K) (i : ℕ) : Type 0 where
  pub within : i < length items
  pub before : (k : ℕ) (d : K) → k < i → cmp (slice_index_or items i d) (slice_index_or items k d) ≡ Less
  pub after : (k : ℕ) (d : K) → i < k → k < length items → is_lt (cmp (slice_index_or items k d) (slice_index_or items i d)) ≡ false
