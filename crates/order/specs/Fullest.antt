-- The engines of a tag, those with most load first.
--   is_before m n a b                                the engine a with load m is tried before the engine b with load n: it has more load, or as much and the lower number
--   before loads a b                                 the same of two engines, by the loads of all
--   fullest_listing order tellings tags tag loads    the engines of the tag so sorted, whatever was told
--   candidate loads e                                an engine with its load
use Rattle.std.specs.Prelude.{ℕ, Bool, ◌&&◌, ◌||◌, List, ◌==◌, nat_lt, slice_index}
use Rattle.order.specs.declared.fullest.Candidate.{Candidate}
use Rattle.order.specs.declared.fullest.Fullest.{Fullest}
use Rattle.order.specs.Listing.{engines_of}
use Rattle.order.specs.Sorting.{sorted}

abbrev pub is_before : ℕ → ℕ → ℕ → ℕ → Bool
is_before m n a b = nat_lt n m || (m == n && nat_lt a b)

abbrev pub before : List ℕ → ℕ → ℕ → Bool
before loads a b = is_before (slice_index loads a) (slice_index loads b) a b

abbrev pub fullest_listing : Fullest → List (ℕ × ℕ) → List ℕ → ℕ → List ℕ → List ℕ
fullest_listing order tellings tags tag loads = sorted (before loads) (engines_of tags tag)

abbrev pub candidate : List ℕ → ℕ → Candidate
candidate loads e = record { load = record { 0 = slice_index loads e }; engine = e }
