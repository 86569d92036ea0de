-- Making the claim of sub-tasks ts, where the rows say what each branch number reaches.
--   most_within ts rows u y     the most that one arrival asks between u and y after it
--   CutOf ts rows es u k        the cut k is at u, and beside each of the ends es it has the most from there to it
--   CutsOf ts rows es ks        the cuts ks are at the offsets of the sub-tasks, one for each
use Rattle.std.specs.Prelude.{◌≡◌, ℕ, ◌<◌, Bool, List, length, slice_index}
use Rattle.std.specs.List.{AllZip}
use Rattle.claim.specs.declared.claim.Cut.{Cut}
use Rattle.plan.specs.declared.part.Task.{Task}
use Rattle.plan.specs.Pattern.{branch_of}
use Rattle.theory.specs.Demand.{greatest}
use Rattle.theory.specs.Pattern.{inner}

abbrev pub most_within : List Task → List (List Bool) → ℕ → ℕ → ℕ
most_within ts rows u y = greatest (λ (row : List Bool). inner (branch_of ts row) u y) rows

pub record CutOf (ts : List Task) (rows : List (List Bool)) (es : List ℕ) (u : ℕ) (k : Cut) : Type 0 where
  pub its_moment : k.«from» ≡ u
  pub beside : (i : ℕ) → i < length es → slice_index k.most i ≡ most_within ts rows u (slice_index es i)

abbrev pub CutsOf : List Task → List (List Bool) → List ℕ → List Cut → Type 0
CutsOf ts rows es ks = AllZip (λ (t : Task) k. CutOf ts rows es t.window.offset k) ts ks
