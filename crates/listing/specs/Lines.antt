-- The lines that the seating program prints.
--   refusal_line q p    answer=q,p
use Rattle.std.specs.Prelude.{ℕ, List, ◌++◌, codes, decimal}

abbrev pub refusal_line : ℕ → ℕ → List ℕ
refusal_line q p = codes "answer=" ++ (decimal q ++ (codes "," ++ (decimal p ++ codes "\n")))
