-- The number and the place of a fault.
--   number_of f    the question that the text fails, from 1 to 6
--   place_of f     the line from 1, or the node from 0, or 0
use Rattle.std.specs.Prelude.{ℕ}
use Rattle.text.specs.declared.fault.Fault.{Fault}
use Rattle.text.specs.declared.fault.Fault.TheVariants.{Size, Line, Form, Range, Fork, Forks}

abbrev pub number_of : Fault → ℕ
number_of Size = 1
number_of (Line n) = 2
number_of (Form n) = 3
number_of (Range n) = 4
number_of (Fork v) = 5
number_of Forks = 6

abbrev pub place_of : Fault → ℕ
place_of Size = 0
place_of (Line n) = n
place_of (Form n) = n
place_of (Range n) = n
place_of (Fork v) = v
place_of Forks = 0
