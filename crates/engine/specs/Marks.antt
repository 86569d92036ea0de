-- The marks of an engine.
--   marked m    its marks, true for a served tick
--   Fit m       there are 1 to 240, a divisor of a belt cycle, and one of them is true
use Rattle.std.specs.Prelude.{◌≡◌, ◌%◌, ◌≤◌, Bool, true, List, length, Contains}
use Rattle.few.specs.Few.{items}
use Rattle.engine.specs.declared.marks.Marks.{Marks}

abbrev pub marked : Marks → List Bool
marked m = items m.served

pub record Fit (m : Marks) : Type 0 where
  pub some : 1 ≤ length (marked m)
  pub short : length (marked m) ≤ 240
  pub divides : 14400 % length (marked m) ≡ 0
  pub serves : Contains (marked m) true
