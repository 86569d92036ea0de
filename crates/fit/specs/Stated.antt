-- Claims beside the patterns that they state.
--   States p c      the claim c says what the pattern p asks, which is well formed and whose period divides a belt cycle
--   Stated ps cs    there are as many claims cs as patterns ps, and each states the one at its place
use Rattle.std.specs.Prelude.{◌≡◌, ◌%◌, List, [], ◌∷◌}
use Rattle.claim.specs.declared.claim.Claim.{Claim}
use Rattle.claim.specs.Claim.{Claims}
use Rattle.theory.specs.Pattern.{Pattern, WellFormed}

pub record States (p : Pattern) (c : Claim) : Type 0 where
  pub formed : WellFormed p
  pub divides : 14400 % p.period ≡ 0
  pub claims : Claims p c

abbrev pub Stated : List Pattern → List Claim → Type 0
Stated [] [] = Unit {0}
Stated [] (c ∷ cs) = ⊥
Stated (p ∷ ps) [] = ⊥
Stated (p ∷ ps) (c ∷ cs) = States p c × Stated ps cs
