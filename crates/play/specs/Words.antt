-- The words of a line.
--   Parted line word more    word is the first word of the line, and more what stands after the space behind it, if there is one
use Rattle.std.specs.Prelude.{◌≡◌, ℕ, List, Some, None, Option}
use Rattle.text.specs.Split.{Cut, Lacks}

abbrev pub Parted : List ℕ → List ℕ → Option (List ℕ) → Type 0
Parted line word None = (line ≡ word) × Lacks 32 line
Parted line word (Some more) = Cut 32 line word more
