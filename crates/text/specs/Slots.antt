-- Lines that are due, one after the other.
--   Slot                     a due line: its key and the value that is written
--   slot k bs                the due line of the key k with the value bs
--   text_of ss               the written lines, each its key, its value and byte 10
--   number_fits k n          n lies in the range of the key k
--   MarksFit ms              at most 240 marks, a divisor of 14,400, with a one
--   RangedAs s k bs          the value bs is well formed by the sort s, and in the range of the key k
--   Ranged k bs              the same, by the sort of k
--   InRange s                so it is of the value of the due line s
--   Taken k bs value more    bs begins with a line of the key k with this value; more stands after it
--   Took ss bs n cs m        bs begins with the lines ss, all in range; cs stands after them; line n was the last before, m is the last of them
--   Fails k bs n f           bs does not begin with a line of the key k that is in range, and f says why, at line n
--   Stops ss bs n f          bs begins with some of the lines ss, and the next fails by f; line n was the last before
--   Overruns ss bs n f       bs begins with all the lines ss, and more stands after them: f says so, at the line after the last
--   Halts ss bs f            the text bs is not just the lines ss, and f says why
--   Whole ss bs              the text bs is just the lines ss, all in range
--   Sized bs, Missized bs    a text has 1 to 4,096 bytes; or it has not
use Rattle.std.specs.Prelude.{◌≡◌, ℕ, ◌+◌, ◌%◌, ◌<◌, ◌≤◌, Bool, true, false, ◌&&◌, ◌⊎◌, List, [], ◌∷◌, ◌++◌, length, nat_le, slice_index_or}
use Rattle.std.specs.List.{AllByRecursion}
use Rattle.task.specs.Ranges.{fits}
use Rattle.task.specs.declared.ranges.Field as field
use Rattle.text.specs.declared.fault.Fault.{Fault}
use Rattle.text.specs.declared.fault.Fault.TheVariants.{Size, Line, Form, Range, Fork, Forks}
use Rattle.text.specs.declared.key.Key.{Key}
use Rattle.text.specs.declared.key.Key.TheVariants.{Job, Period, Deadline, Nodes, Kind, Tag, Ticks, After, Engines, Marks}
use Rattle.text.specs.declared.key.Sort as sorts
use Rattle.text.specs.declared.key.Sort.{Sort}
use Rattle.text.specs.Key.{key_bytes, node_of, sort_of}
use Rattle.text.specs.Split.{Lacks}
use Rattle.text.specs.Value.{Numeral, Listed, Marked}
use Rattle.text.specs.Value as values

pub record Slot : Type 0 where
  pub key : Key
  pub value : List ℕ

abbrev pub slot : Key → List ℕ → Slot
slot k bs = record { key = k; value = bs }

abbrev pub text_of : List Slot → List ℕ
text_of [] = []
text_of (s ∷ ss) = key_bytes s.key ++ (s.value ++ (10 ∷ text_of ss))

abbrev pub number_fits : Key → ℕ → Bool
number_fits Job n = fits (field.TheVariants.Number n)
number_fits Period n = fits (field.TheVariants.Period n)
number_fits (Deadline p) n = fits (field.TheVariants.Deadline p n)
number_fits Nodes n = fits (field.TheVariants.Count n)
number_fits Kind n = false
number_fits Tag n = fits (field.TheVariants.Tag n)
number_fits Ticks n = fits (field.TheVariants.Work n)
number_fits (After v) n = false
number_fits Engines n = nat_le 1 n && nat_le n 16
number_fits Marks n = false

pub record MarksFit (ms : List Bool) : Type 0 where
  pub short : length ms ≤ 240
  pub divides : 14400 % length ms ≡ 0
  pub serves : (i : ℕ) × (slice_index_or ms i false ≡ true)

abbrev pub RangedAs : Sort → Key → List ℕ → Type 0
RangedAs sorts.TheVariants.Number k bs = (n : ℕ) × Numeral n bs × (number_fits k n ≡ true)
RangedAs sorts.TheVariants.Kind k bs = values.Form sorts.TheVariants.Kind bs
RangedAs sorts.TheVariants.List k bs = Listed (λ n. n < node_of k) bs
RangedAs sorts.TheVariants.Marks k bs = Marked MarksFit bs

abbrev pub Ranged : Key → List ℕ → Type 0
Ranged k bs = RangedAs (sort_of k) k bs

abbrev pub InRange : Slot → Type 0
InRange s = Ranged s.key s.value

pub record Taken (k : Key) (bs value more : List ℕ) : Type 0 where
  pub ended : Lacks 10 value
  pub written : bs ≡ key_bytes k ++ (value ++ (10 ∷ more))

pub record Took (ss : List Slot) (bs : List ℕ) (n : ℕ) (cs : List ℕ) (m : ℕ) : Type 0 where
  pub written : bs ≡ text_of ss ++ cs
  pub ranged : AllByRecursion InRange ss
  pub counted : m ≡ n + length ss

abbrev pub Fails : Key → List ℕ → ℕ → Fault → Type 0
Fails k bs n Size = ⊥
Fails k bs n (Line at) = (at ≡ n) × ((value more : List ℕ) → Taken k bs value more → ⊥)
Fails k bs n (Form at) = (at ≡ n) × ((value : List ℕ) × (more : List ℕ) × Taken k bs value more × (values.Form (sort_of k) value → ⊥))
Fails k bs n (Range at) = (at ≡ n) × ((value : List ℕ) × (more : List ℕ) × Taken k bs value more × values.Form (sort_of k) value × (Ranged k value → ⊥))
Fails k bs n (Fork node) = ⊥
Fails k bs n Forks = ⊥

pub record Stops (ss : List Slot) (bs : List ℕ) (n : ℕ) (f : Fault) : Type 0 where
  pub before : List Slot
  pub due : Slot
  pub later : List Slot
  pub order : ss ≡ before ++ due ∷ later
  pub rest : List ℕ
  pub last : ℕ
  pub took : Took before bs n rest last
  pub fails : Fails due.key rest (last + 1) f

pub record Overruns (ss : List Slot) (bs : List ℕ) (n : ℕ) (f : Fault) : Type 0 where
  pub rest : List ℕ
  pub last : ℕ
  pub took : Took ss bs n rest last
  pub more : 0 < length rest
  pub fault : f ≡ Line (last + 1)

abbrev pub Halts : List Slot → List ℕ → Fault → Type 0
Halts ss bs f = Stops ss bs 0 f ⊎ Overruns ss bs 0 f

pub record Whole (ss : List Slot) (bs : List ℕ) : Type 0 where
  pub written : bs ≡ text_of ss
  pub ranged : AllByRecursion InRange ss

abbrev pub Sized : List ℕ → Type 0
Sized bs = (0 < length bs) × (length bs ≤ 4096)

abbrev pub Missized : List ℕ → Type 0
Missized bs = (length bs ≡ 0) ⊎ (4096 < length bs)
