-- Tables over the nodes of a job.
--   Free table, SomeOf table     no place is true; some place is
--   Meets a b, Apart a b         some place is true in both; none is
--   Tells P table     the table says of each node whether it is P
--   leads rows u v    the table of edges has one from u to v: row v has the nodes that an edge leads from
use Rattle.std.specs.Prelude.{◌≡◌, ℕ, Bool, true, false, ◌&&◌, List, [], Decides, slice_index_or}

abbrev pub Tells : (ℕ → Type 0) → List Bool → Type 0
Tells P table = (v : ℕ) → Decides (slice_index_or table v false) (P v)

abbrev pub leads : List (List Bool) → ℕ → ℕ → Bool
leads rows u v = slice_index_or (slice_index_or rows v []) u false

abbrev pub Free : List Bool → Type 0
Free table = (u : ℕ) → slice_index_or table u false ≡ false

abbrev pub SomeOf : List Bool → Type 0
SomeOf table = (u : ℕ) × (slice_index_or table u false ≡ true)

abbrev pub Meets : List Bool → List Bool → Type 0
Meets a b = (u : ℕ) × ((slice_index_or a u false && slice_index_or b u false) ≡ true)

abbrev pub Apart : List Bool → List Bool → Type 0
Apart a b = (u : ℕ) → (slice_index_or a u false && slice_index_or b u false) ≡ false
