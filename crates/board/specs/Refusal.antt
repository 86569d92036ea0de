-- The number and the place of each refusal.
--   refusal_number r    the question that a call fails
--   refusal_place r     the place of a text's fault, else 0
--   refusal_text r      both, with a comma between them
use Rattle.std.specs.Prelude.{ℕ, List, ◌∷◌, ◌++◌, decimal}
use Rattle.board.specs.declared.refusal.Refusal.{Refusal}
use Rattle.board.specs.declared.refusal.Refusal.TheVariants.{Fault, NumberTaken, BoardFull, NoChoice, NoPlacement, NotResident, NoBranch, TooSoon, NoEngine, LastClock, ShortBuffer}
use Rattle.text.specs.Fault.{number_of, place_of}

abbrev pub refusal_number : Refusal → ℕ
refusal_number (Fault f) = number_of f
refusal_number NumberTaken = 7
refusal_number BoardFull = 8
refusal_number NoChoice = 9
refusal_number NoPlacement = 10
refusal_number NotResident = 11
refusal_number NoBranch = 12
refusal_number TooSoon = 13
refusal_number NoEngine = 14
refusal_number LastClock = 15
refusal_number ShortBuffer = 16

abbrev pub refusal_place : Refusal → ℕ
refusal_place (Fault f) = place_of f
refusal_place NumberTaken = 0
refusal_place BoardFull = 0
refusal_place NoChoice = 0
refusal_place NoPlacement = 0
refusal_place NotResident = 0
refusal_place NoBranch = 0
refusal_place TooSoon = 0
refusal_place NoEngine = 0
refusal_place LastClock = 0
refusal_place ShortBuffer = 0

abbrev pub refusal_text : Refusal → List ℕ
refusal_text r = decimal (refusal_number r) ++ 44 ∷ decimal (refusal_place r)
