-- The texts of an input.
--   Texts input texts    these are the texts of the input, the first one first
use Rattle.std.specs.Prelude.{ℕ, List, [], ◌∷◌, Some, None, Option}
use Rattle.text.specs.Texts.{First}

pub data Texts : Option (List ℕ) → List (List ℕ) → Type 0 where
  none : Texts None []
  one : {input text : List ℕ} {more : Option (List ℕ)} {texts : List (List ℕ)}
      → First input text more → Texts more texts → Texts (Some input) (text ∷ texts)
