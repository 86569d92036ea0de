-- The sheets of the jobs of a board.
--   SheetWritten rs number old n new    the sheet of the job with the number stands in the first n bytes of the buffer, and the others are as they were
--   SheetRefused rs number old f        the first question that asking for the sheet fails is that of f
use Rattle.std.specs.Prelude.{◌≡◌, ℕ, ◌<◌, List, ◌++◌, length, drop, Some, None}
use Rattle.board.specs.declared.refusal.Refusal.{Refusal}
use Rattle.board.specs.declared.refusal.Refusal.TheVariants.{Fault, NumberTaken, BoardFull, NoChoice, NoPlacement, NotResident, NoBranch, TooSoon, NoEngine, LastClock, ShortBuffer}
use Rattle.board.specs.Residents.{resident_of}
use Rattle.resident.specs.declared.resident.Resident.{Resident}
use Rattle.sheet.specs.Sheet.{sheet_of}

pub record SheetWritten (rs : List Resident) (number : ℕ) (old : List ℕ) (n : ℕ) (new : List ℕ) : Type 0 where
  pub job : Resident
  pub found : resident_of rs number ≡ Some job
  pub long : n ≡ length (sheet_of job)
  pub bytes : new ≡ sheet_of job ++ drop n old

abbrev pub SheetRefused : List Resident → ℕ → List ℕ → Refusal → Type 0
SheetRefused rs number old (Fault f) = ⊥
SheetRefused rs number old NumberTaken = ⊥
SheetRefused rs number old BoardFull = ⊥
SheetRefused rs number old NoChoice = ⊥
SheetRefused rs number old NoPlacement = ⊥
SheetRefused rs number old NotResident = resident_of rs number ≡ None
SheetRefused rs number old NoBranch = ⊥
SheetRefused rs number old TooSoon = ⊥
SheetRefused rs number old NoEngine = ⊥
SheetRefused rs number old LastClock = ⊥
SheetRefused rs number old ShortBuffer = (job : Resident) × (resident_of rs number ≡ Some job) × (length old < length (sheet_of job))
