-- Lists of the engines of a tag.
--   engines_from e tags tag    those of the engines from e on, whose tags are the list
--   engines_of tags tag        the engines of the tag by rising number
--   times e list               how often e stands in the list
--   EachOnce tags tag list     the list has every engine of the tag once, and nothing else
use Rattle.std.specs.Prelude.{◌≡◌, ℕ, suc, ◌+◌, cond, List, [], ◌∷◌, Some, ◌==◌, ◌≢◌}
use Rattle.engine.specs.Roster.{tag_of}

abbrev pub engines_from : ℕ → List ℕ → ℕ → List ℕ
engines_from e [] tag = []
engines_from e (t ∷ ts) tag = cond (t == tag) (e ∷ engines_from (suc e) ts tag) (engines_from (suc e) ts tag)

abbrev pub engines_of : List ℕ → ℕ → List ℕ
engines_of tags tag = engines_from 0 tags tag

abbrev pub times : ℕ → List ℕ → ℕ
times e [] = 0
times e (x ∷ xs) = cond (x == e) 1 0 + times e xs

pub record EachOnce (tags : List ℕ) (tag : ℕ) (list : List ℕ) : Type 0 where
  pub once : (e : ℕ) → tag_of tags e ≡ Some tag → times e list ≡ 1
  pub never : (e : ℕ) → (tag_of tags e ≢ Some tag) → times e list ≡ 0
