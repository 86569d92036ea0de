-- Texts one after the other, parted by empty lines.
--   Fresh bs i               a line of bs begins at place i: at 0, and after each byte 10
--   Empty bs i               it ends there too, with byte 10
--   Gap bs i                 bytes 10 stand at place i and at the next one
--   First input text more    text is the first text of the input, and more what stands after the empty line, if there is one
use Rattle.std.specs.Prelude.{◌≡◌, ℕ, ◌+◌, ◌-◌, ◌<◌, ◌⊎◌, List, ◌∷◌, ◌++◌, length, Some, None, Option, slice_index}

abbrev pub Fresh : List ℕ → ℕ → Type 0
Fresh bs i = (i ≡ 0) ⊎ (slice_index bs (i - 1) ≡ 10)

abbrev pub Empty : List ℕ → ℕ → Type 0
Empty bs i = Fresh bs i × (slice_index bs i ≡ 10)

abbrev pub Gap : List ℕ → ℕ → Type 0
Gap bs i = (i + 1 < length bs) × (slice_index bs i ≡ 10) × (slice_index bs (i + 1) ≡ 10)

abbrev pub First : List ℕ → List ℕ → Option (List ℕ) → Type 0
First input text None = (input ≡ text) × ((i : ℕ) → Empty text i → ⊥)
First input text (Some more) = (input ≡ text ++ 10 ∷ more) × Fresh text (length text) × ((i : ℕ) → Empty text i → ⊥)
