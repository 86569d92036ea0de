-- The lines of calls.
--   numbered name n          the line with the name and a number
--   paired name a b          the line with the name and two numbers
--   Names texts word text    the word is the number of a job text, where the first text is that of the platform
--   Writes texts line c      the line writes the call c
use Rattle.std.specs.Prelude.{◌≡◌, ℕ, ◌<◌, List, ◌∷◌, ◌++◌, decimal, Some, slice_get}
use Rattle.std.specs.Borrow.{Bor}
use Rattle.play.specs.declared.call.Call.{Call}
use Rattle.play.specs.declared.call.Call.TheVariants as calls
use Rattle.play.specs.declared.name.Name.{Name}
use Rattle.play.specs.declared.name.Name.TheVariants as names
use Rattle.play.specs.Name.{name_word}

abbrev pub numbered : Name → ℕ → List ℕ
numbered name n = name_word name ++ 32 ∷ decimal n

abbrev pub paired : Name → ℕ → ℕ → List ℕ
paired name a b = name_word name ++ 32 ∷ (decimal a ++ 32 ∷ decimal b)

abbrev pub Names : List (Bor (List ℕ)) → List ℕ → Bor (List ℕ) → Type 0
Names texts word text = (i : ℕ) × (0 < i) × (word ≡ decimal i) × (slice_get texts i ≡ Some text)

abbrev pub Writes : List (Bor (List ℕ)) → List ℕ → Call → Type 0
Writes texts line (calls.Load text) = (word : List ℕ) × (line ≡ name_word names.Load ++ 32 ∷ word) × Names texts word text
Writes texts line (calls.Unload n) = line ≡ numbered names.Unload n
Writes texts line (calls.Sheet n l) = line ≡ paired names.Sheet n l
Writes texts line calls.Start = line ≡ name_word names.Start
Writes texts line (calls.Arrive n b) = line ≡ paired names.Arrive n b
Writes texts line (calls.Next e) = line ≡ numbered names.Next e
Writes texts line (calls.Tick s d) = line ≡ paired names.Tick s d
Writes texts line calls.Late = line ≡ name_word names.Late
Writes texts line calls.Stop = line ≡ name_word names.Stop
