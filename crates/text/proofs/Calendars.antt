-- What a platform text says has the tags and marks of a calendar.
use Rattle.std.proofs.Common.{◌≡◌, ℕ, zero, suc, ◌+◌, ◌/◌, ◌%◌, ◌^◌, ◌<◌, ◌≤◌, false, eqb, leb, List, [], ◌∷◌, map, length, decimal, ap, inl, inr, pow-suc, le-div_iff_mul-le, arith, length-take}
use native.Mathlib.Nat.{pow-le-pow_right}
use Rattle.std.specs.List.{AllByRecursion}
use Rattle.std.specs.Fmt.{digits, digits_onto, digit_glyph}
use Rattle.std.proofs.lemmas.Fmt.{length-decimal-le, decimal_injective}
use Rattle.std.proofs.lemmas.List.{length-map}
use Rattle.std.proofs.lemmas.Bool.{cases_lt, cases_Bool, and_parts, leb-true, ne_eqb}
use Rattle.std.specs.List.{All}
use Rattle.std.proofs.lemmas.List.Elements.{All-from_recursion}
use Rattle.few.specs.Few.{items}
use Rattle.engine.specs.Marks.{Fit, marked}
use Rattle.text.proofs.Marking.{fit_from, marked_any, marks_same, marks_written, ones}
use Rattle.engine.specs.Roster.{Rostered}
use Rattle.text.specs.declared.platform_text.Engine.{Engine}
use Rattle.text.specs.declared.platform_text.Platform.{Platform}
use Rattle.text.specs.PlatformText.{Reads, said, engines_slots}
use Rattle.text.specs.declared.key.Key.TheVariants.{Tag, Engines, Marks as Marks'}
use Rattle.text.specs.Slots.{InRange, slot}
use Rattle.text.specs.Value.{Numeral, mark_bytes}

pub spelled_more : (k m : ℕ) (acc : List ℕ) → length acc ≤ length (digits_onto k 10 false m acc)
spelled_more zero m acc = omega arith
spelled_more (suc k) m acc = elim (cases_Bool (eqb (m / 10) 0)) [
  | inl y ↦ rw y (omega arith)
  | inr n ↦ let rec = spelled_more k (m / 10) (digit_glyph false (m % 10) ∷ acc) in rw n (omega arith)
]

-- a number of more than j digits is written with more than j
long_spelled : (j k m : ℕ) (acc : List ℕ) → 10 ^ j ≤ m → j < k → j + 1 + length acc ≤ length (digits_onto k 10 false m acc)
long_spelled j zero m acc big room = absurd (omega arith)
long_spelled zero (suc k) m acc big room = elim (cases_Bool (eqb (m / 10) 0)) [
  | inl y ↦ rw y (omega arith)
  | inr n ↦ let rec = spelled_more k (m / 10) (digit_glyph false (m % 10) ∷ acc) in rw n (omega arith)
]
long_spelled (suc j) (suc k) m acc big room =
    let tenth : 10 ^ j ≤ m / 10 = (le-div_iff_mul-le {k = 10} {x = 10 ^ j} {y = m} (omega arith)).1 (omega (arith, pow-suc 10 j)) in
    let some : 1 ≤ 10 ^ j = pow-le-pow_right {n = 10} (omega arith) {i = 0} {j = j} (omega arith) in
    let go_on : eqb (m / 10) 0 ≡ false = ne_eqb (m / 10) 0 (λ e. omega arith) in
    let rec = long_spelled j k (m / 10) (digit_glyph false (m % 10) ∷ acc) tenth (omega arith) in
    rw go_on (omega arith)

long_decimal : (m : ℕ) → 10 ^ 9 ≤ m → 10 ≤ length (decimal m)
unfolding digits
long_decimal m big = let all = long_spelled 9 64 m [] big (omega arith) in omega arith

-- what is written with at most nine digits is that number
pub decimal_numeral : (m n : ℕ) → Numeral n (decimal m) → m ≡ n
decimal_numeral m n is = elim (cases_lt m (10 ^ 9)) [
  | inl below ↦ decimal_injective m n (omega arith) (omega (arith, is.small)) is.written
  | inr past ↦ absurd (omega (arith, long_decimal m past, ap length is.written, length-decimal-le 9 n (omega arith) is.small (omega (arith, is.small))))
]

tag_small : (tag : ℕ) → InRange (slot Tag (decimal tag)) → tag ≤ 7
tag_small tag r = omega (arith, decimal_numeral tag r.0 r.1, leb-true r.0 7 r.2)

marks_fit : (e : Engine) → InRange (slot Marks' (mark_bytes (marked e.marks))) → Fit e.marks
marks_fit e r =
    let same : marked e.marks ≡ ones (mark_bytes (marked e.marks)) = marks_same (marked e.marks) (ones (mark_bytes (marked e.marks))) (marks_written (mark_bytes (marked e.marks)) (marked_any (mark_bytes (marked e.marks)) r)) in
    fit_from e.marks (mark_bytes (marked e.marks)) same r

tags_fit : (es : List Engine) → AllByRecursion InRange (engines_slots (map said es)) → AllByRecursion (λ t. t ≤ 7) (map (λ (e : Engine). e.tag) es)
tags_fit [] r = tt
tags_fit (e ∷ es) r = (tag_small e.tag r.0, tags_fit es r.1.1)

all_fit : (es : List Engine) → AllByRecursion InRange (engines_slots (map said es)) → AllByRecursion Fit (map (λ (e : Engine). e.marks) es)
all_fit [] r = tt
all_fit (e ∷ es) r = (marks_fit e r.1.0, all_fit es r.1.1)

count_some : (n : ℕ) → InRange (slot Engines (decimal n)) → 1 ≤ n
count_some n r = omega (arith, decimal_numeral n r.0 r.1, leb-true 1 r.0 (and_parts (leb 1 r.0) (leb r.0 16) r.2).0)

pub platform_fits : (text : List ℕ) (p : Platform) → Reads text p → (length (items p.engines) ≤ 16) × Rostered (map (λ (e : Engine). e.tag) (items p.engines)) × All Fit (map (λ (e : Engine). e.marks) (items p.engines))
platform_fits text p reads =
    let es = items p.engines in
    let few : length es ≤ 16 = omega (arith, length-take p.engines.len p.engines.places, p.engines.fits) in
    let long = length-map es (λ (e : Engine). e.tag) in (
      few,
      record {
        some = omega (arith, count_some (length (map said es)) reads.whole.ranged.0, length-map es said);
        few = omega arith;
        small = All-from_recursion (λ t. t ≤ 7) _ (tags_fit es reads.whole.ranged.1);
      },
      All-from_recursion Fit _ (all_fit es reads.whole.ranged.1),
    )
