-- What the values of lines write.
--   Small n             the number has at most nine digits
--   Numeral n bs        bs is the number n in decimal, of at most nine digits
--   commas ns           the numbers in decimal, with commas between
--   listed ns           the same, and a dash for no number
--   Rising k ns         the numbers rise, from k on
--   Listed P bs         bs is rising numbers, all of which P holds, with commas between, or a dash for none
--   end_of ns           one more than the last of ns, 0 for none
--   places_from k us    the places of us that are true, rising, where the first place is k
--   places us           the same, where the first place is 0
--   Gathers l bs        bs lists rising numbers: l has the places of those below 24, and the end of all
--   word k              the name of the kind k
--   mark_bytes ms       a one for each place of ms that is true, a zero for each other
--   Marked P bs         bs is such a string, of one mark or more of which P holds
--   Form s bs           bs is well formed as a value of the sort s
--   Means s bs v        and v is that value
--   Lower v us          us has 24 places, of which those that are true lie below v
use Rattle.std.specs.Prelude.{◌≡◌, ℕ, suc, ◌<◌, ◌≤◌, Bool, true, false, cond, List, [], ◌∷◌, ◌++◌, map, length, filter, codes, decimal, nat_lt, slice_index_or}
use Rattle.std.specs.List.{AllByRecursion}
use Rattle.text.specs.declared.key.Sort as sorts
use Rattle.text.specs.declared.key.Sort.{Sort}
use Rattle.text.specs.declared.value.Kind.{Kind}
use Rattle.text.specs.declared.value.Kind.TheVariants.{SubTask, Alternative, Conditional}
use Rattle.text.specs.declared.value.Numbers.{Numbers}
use Rattle.text.specs.declared.value.Value as values
use Rattle.text.specs.declared.value.Value.{Value}

abbrev pub Small : ℕ → Type 0
Small n = n < 1000000000

pub record Numeral (n : ℕ) (bs : List ℕ) : Type 0 where
  pub small : Small n
  pub written : bs ≡ decimal n

abbrev pub commas : List ℕ → List ℕ
commas [] = []
commas (n ∷ []) = decimal n
commas (n ∷ m ∷ ns) = decimal n ++ 44 ∷ commas (m ∷ ns)

abbrev pub listed : List ℕ → List ℕ
listed [] = 45 ∷ []
listed (n ∷ ns) = commas (n ∷ ns)

abbrev pub Rising : ℕ → List ℕ → Type 0
Rising k [] = Unit {0}
Rising k (n ∷ ns) = (k ≤ n) × Rising (suc n) ns

pub record Listed (P : ℕ → Type 0) (bs : List ℕ) : Type 0 where
  pub numbers : List ℕ
  pub rising : Rising 0 numbers
  pub small : AllByRecursion Small numbers
  pub all : AllByRecursion P numbers
  pub written : bs ≡ listed numbers

abbrev pub places_from : ℕ → List Bool → List ℕ
places_from k [] = []
places_from k (true ∷ us) = k ∷ places_from (suc k) us
places_from k (false ∷ us) = places_from (suc k) us

abbrev pub places : List Bool → List ℕ
places us = places_from 0 us

abbrev pub end_of : List ℕ → ℕ
end_of [] = 0
end_of (n ∷ []) = suc n
end_of (n ∷ m ∷ ns) = end_of (m ∷ ns)

pub record Gathers (l : Numbers) (bs : List ℕ) : Type 0 where
  pub form : Listed (λ _. Unit {0}) bs
  pub size : length l.places ≡ 24
  pub below : places l.places ≡ filter (λ n. nat_lt n 24) form.numbers
  pub end : l.end ≡ end_of form.numbers

pub record Lower (v : ℕ) (us : List Bool) : Type 0 where
  pub size : length us ≡ 24
  pub below : (u : ℕ) → slice_index_or us u false ≡ true → u < v

abbrev pub word : Kind → List ℕ
word SubTask = codes "subtask"
word Alternative = codes "alternative"
word Conditional = codes "conditional"

abbrev pub mark_bytes : List Bool → List ℕ
mark_bytes ms = map (λ m. cond m 49 48) ms

pub record Marked (P : List Bool → Type 0) (bs : List ℕ) : Type 0 where
  pub marks : List Bool
  pub some : 0 < length marks
  pub written : bs ≡ mark_bytes marks
  pub all : P marks

abbrev pub Form : Sort → List ℕ → Type 0
Form sorts.TheVariants.Number bs = (n : ℕ) × Numeral n bs
Form sorts.TheVariants.Kind bs = (k : Kind) × (bs ≡ word k)
Form sorts.TheVariants.List bs = Listed (λ _. Unit {0}) bs
Form sorts.TheVariants.Marks bs = Marked (λ _. Unit {0}) bs

abbrev pub Means : Sort → List ℕ → Value → Type 0
Means s bs (values.TheVariants.Number n) = (s ≡ sorts.TheVariants.Number) × Numeral n bs
Means s bs (values.TheVariants.Kind k) = (s ≡ sorts.TheVariants.Kind) × (bs ≡ word k)
Means s bs (values.TheVariants.List l) = (s ≡ sorts.TheVariants.List) × Gathers l bs
Means s bs (values.TheVariants.Marks piece) = (s ≡ sorts.TheVariants.Marks) × (piece.now ≡ bs) × Marked (λ _. Unit {0}) bs
