-- Bytes cut at a byte.
--   Lacks b bs          the byte b is not among bs
--   Cut b bs xs ys      bs is xs, the first b, and ys
use Rattle.std.specs.Prelude.{◌≡◌, ℕ, List, ◌∷◌, ◌++◌, ◌≢◌}
use Rattle.std.specs.List.{AllByRecursion}

abbrev pub Lacks : ℕ → List ℕ → Type 0
Lacks b bs = AllByRecursion (λ x. x ≢ b) bs

pub record Cut (b : ℕ) (bs xs ys : List ℕ) : Type 0 where
  pub parts : bs ≡ xs ++ b ∷ ys
  pub first : Lacks b xs
