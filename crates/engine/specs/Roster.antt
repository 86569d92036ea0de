-- The engines of a platform, as the list of their tags.
--   Rostered tags    1 to 16 engines, with tags from 0 to 7
--   tag_of tags e    the tag of the engine e, if there is one
use Rattle.std.specs.Prelude.{ℕ, ◌≤◌, List, length, Option, All, slice_get}

pub record Rostered (tags : List ℕ) : Type 0 where
  pub some : 1 ≤ length tags
  pub few : length tags ≤ 16
  pub small : All (λ t. t ≤ 7) tags

abbrev pub tag_of : List ℕ → ℕ → Option ℕ
tag_of tags e = slice_get tags e
