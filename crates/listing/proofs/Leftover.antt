-- How much of the texts is left: it falls with each text.
use Rattle.std.proofs.Common.{ℕ, suc, ◌<◌, List, ◌∷◌, length, Some, None, Option, ap, arith, length-append}
use Rattle.text.specs.Texts.{First}

abbrev pub leftover : Option (List ℕ) → ℕ
leftover None = 0
leftover (Some bs) = suc (length bs)

pub leftover_falls : (input text : List ℕ) (more : Option (List ℕ)) → First input text more → leftover more < suc (length input)
leftover_falls input text None first = omega arith
leftover_falls input text (Some rest) first = omega (arith, ap length first.0, length-append text (10 ∷ rest))
