-- All that the seating program prints.
--   Answered rules rs texts bs     bs has the answers to the job texts, one after the other, where the board has the jobs rs before them
--   Stops input f                  nothing is answered of the input, for f: it is too long, or its platform text is refused
--   Opens input platform texts     the platform text of the input is right, and these job texts come after it
--   Lists input bs                 bs is what is printed of the input
use Rattle.std.specs.Prelude.{◌≡◌, ℕ, ◌<◌, ◌≤◌, ◌⊎◌, List, [], ◌++◌, length, Some, None, Option}
use Rattle.board.specs.declared.refusal.Refusal.TheVariants.{Fault as FaultyText}
use Rattle.board.specs.Placing.{Rules}
use Rattle.engine.specs.declared.calendar.Calendar.{Calendar}
use Rattle.listing.specs.Answer.{Answers, refused_text}
use Rattle.listing.specs.Rules.{seat_rules}
use Rattle.resident.specs.declared.resident.Resident.{Resident}
use Rattle.text.specs.declared.fault.Fault.{Fault}
use Rattle.text.specs.declared.fault.Fault.TheVariants.{Size, Line, Form, Range, Fork, Forks}
use Rattle.text.specs.CalendarText.{CalendarReads}
use Rattle.text.specs.PlatformText.{Refused}
use Rattle.text.specs.Texts.{First}

pub data Answered (rules : Rules) : List Resident → Option (List ℕ) → List ℕ → Type 0 where
  none : {rs : List Resident} → Answered rules rs None []
  one : {rs after : List Resident} {input text bs cs : List ℕ} {more : Option (List ℕ)}
      → First input text more → Answers rules rs text after bs → Answered rules after more cs → Answered rules rs (Some input) (bs ++ cs)

pub record PlatformRefused (input : List ℕ) (f : Fault) : Type 0 where
  pub short : length input ≤ 65536
  pub text : List ℕ
  pub texts : Option (List ℕ)
  pub parted : First input text texts
  pub refused : Refused text f

-- more than 65,536 bytes are a text of a wrong size
abbrev pub Stops : List ℕ → Fault → Type 0
Stops input Size = (65536 < length input) ⊎ PlatformRefused input Size
Stops input (Line n) = PlatformRefused input (Line n)
Stops input (Form n) = PlatformRefused input (Form n)
Stops input (Range n) = PlatformRefused input (Range n)
Stops input (Fork n) = PlatformRefused input (Fork n)
Stops input Forks = PlatformRefused input Forks

pub record Opens (input : List ℕ) (platform : Calendar) (texts : Option (List ℕ)) : Type 0 where
  pub short : length input ≤ 65536
  pub text : List ℕ
  pub parted : First input text texts
  pub reads : CalendarReads text platform

abbrev pub Lists : List ℕ → List ℕ → Type 0
Lists input bs =
    ((f : Fault) × Stops input f × (bs ≡ refused_text (FaultyText f)))
    ⊎ ((platform : Calendar) × (texts : Option (List ℕ)) × Opens input platform texts × Answered (seat_rules platform) [] texts bs)
