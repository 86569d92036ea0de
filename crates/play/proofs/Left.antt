-- How much of the texts is left: it falls with each text.
use Rattle.std.proofs.Common.{ℕ, suc, ◌<◌, List, ◌∷◌, length, Some, None, Option, ap, arith, length-append}
use Rattle.text.specs.Texts.{First}

abbrev pub left_of : Option (List ℕ) → ℕ
left_of None = 0
left_of (Some bs) = suc (length bs)

pub left_falls : (input text : List ℕ) (more : Option (List ℕ)) → First input text more → left_of more < suc (length input)
left_falls input text None first = omega arith
left_falls input text (Some rest) first = omega (arith, ap length first.0, length-append text (10 ∷ rest))
