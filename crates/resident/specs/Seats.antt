-- The seats of a job's parts.
--   all_tags         the tags that there are
--   has_part p g     the plan p has a sub-task of the tag g
--   parts_of p       the tags of its parts, by rising number
--   Fair p s         the seat s states what the part of its tag asks, at most a belt cycle's ticks in each, and its engine is one of 16
--   Seated p ss      so does each of the seats ss
use Rattle.std.specs.Prelude.{ℕ, ◌*◌, ◌/◌, ◌<◌, ◌≤◌, Bool, true, false, List, [], ◌∷◌, filter}
use Rattle.std.specs.List.{All}
use Rattle.claim.specs.Claim.{Claims}
use Rattle.plan.specs.declared.part.Task.{Task}
use Rattle.plan.specs.declared.plan.Plan.{Plan}
use Rattle.plan.specs.Part.{part_of}
use Rattle.plan.specs.Pattern.{part_pattern}
use Rattle.resident.specs.declared.resident.Seat.{Seat}

abbrev pub all_tags : List ℕ
all_tags = 0 ∷ 1 ∷ 2 ∷ 3 ∷ 4 ∷ 5 ∷ 6 ∷ 7 ∷ []

abbrev pub some_task : List Task → Bool
some_task [] = false
some_task (t ∷ ts) = true

abbrev pub has_part : Plan → ℕ → Bool
has_part p g = some_task (part_of p g)

abbrev pub parts_of : Plan → List ℕ
parts_of p = filter (λ g. has_part p g) all_tags

pub record Fair (p : Plan) (s : Seat) : Type 0 where
  pub claims : Claims (part_pattern p s.tag) s.claim
  pub paced : s.claim.whole * (14400 / s.claim.period) ≤ 14400
  pub placed : s.engine < 16

abbrev pub Seated : Plan → List Seat → Type 0
Seated p ss = All (Fair p) ss
