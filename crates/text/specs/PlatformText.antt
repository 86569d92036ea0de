-- What a platform text says.
--   Said                   of each engine a tag and marks, a mark being true for a served tick
--   engine_slots s         the lines of an engine: its tag and its marks
--   engines_slots ss       the lines of engines
--   slots ss               the lines of a platform text: how many engines there are, and theirs
--   said e, all_said p     what the engine e and the platform p say
--   Reads text p           the text is that of the platform p
--   WrongLine text f       the text is that of no platform, and not just the lines of some engines: f names the line where it halts
--   Refused text f         the text is that of no platform, and f says why
use Rattle.std.specs.Prelude.{ℕ, Bool, List, [], ◌∷◌, ◌++◌, map, length, decimal}
use Rattle.few.specs.Few.{items}
use Rattle.engine.specs.Marks.{marked}
use Rattle.text.specs.declared.fault.Fault.{Fault}
use Rattle.text.specs.declared.fault.Fault.TheVariants.{Size, Line, Form, Range, Fork, Forks}
use Rattle.text.specs.declared.key.Key as keys
use Rattle.text.specs.declared.platform_text.Engine.{Engine}
use Rattle.text.specs.declared.platform_text.Platform.{Platform}
use Rattle.text.specs.Slots.{Slot, slot, Halts, Missized, Sized, Whole}
use Rattle.text.specs.Value.{mark_bytes}

pub record Said : Type 0 where
  pub tag : ℕ
  pub marks : List Bool

abbrev pub engine_slots : Said → List Slot
engine_slots s = slot keys.TheVariants.Tag (decimal s.tag) ∷ slot keys.TheVariants.Marks (mark_bytes s.marks) ∷ []

abbrev pub engines_slots : List Said → List Slot
engines_slots [] = []
engines_slots (s ∷ ss) = engine_slots s ++ engines_slots ss

abbrev pub slots : List Said → List Slot
slots ss = slot keys.TheVariants.Engines (decimal (length ss)) ∷ engines_slots ss

abbrev pub said : Engine → Said
said e = record { tag = e.tag; marks = marked e.marks }

abbrev pub all_said : Platform → List Said
all_said p = map said (items p.engines)

pub record Reads (text : List ℕ) (p : Platform) : Type 0 where
  pub sized : Sized text
  pub whole : Whole (slots (all_said p)) text

pub record WrongLine (text : List ℕ) (f : Fault) : Type 0 where
  pub sized : Sized text
  pub says : List Said
  pub halts : Halts (slots says) text f
  pub unread : (p : Platform) → Reads text p → ⊥

abbrev pub Refused : List ℕ → Fault → Type 0
Refused text Size = Missized text
Refused text (Line n) = WrongLine text (Line n)
Refused text (Form n) = WrongLine text (Form n)
Refused text (Range n) = WrongLine text (Range n)
Refused text (Fork v) = ⊥
Refused text Forks = ⊥
