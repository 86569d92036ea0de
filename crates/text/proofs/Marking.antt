-- Zeros and ones.
use Rattle.std.proofs.Common.{◌≡◌, ℕ, ◌<◌, Bool, true, false, Decides, cond, ◌||◌, eqb, ◌⊎◌, List, [], ◌∷◌, map, length, get_or, sym, refl, ap, ◌∙◌, subst, inl, inr, arith}
use Rattle.std.specs.List.{AllByRecursion, list_all}
use Rattle.std.proofs.lemmas.List.{length-map}
use Rattle.std.proofs.lemmas.Bool.{and_from, and_parts, cases_Bool, eq-eqb, eqb-true, ne_eqb}
use Rattle.std.proofs.lemmas.List.{get_or_default}
use Rattle.task.proofs.Places.{true_inside}
use Rattle.engine.specs.declared.marks.Marks.{Marks}
use Rattle.engine.specs.Marks.{Fit, marked}
use Rattle.text.specs.Slots.{MarksFit}
use Rattle.text.specs.Value.{Marked, mark_bytes}

abbrev pub Bit : ℕ → Type 0
Bit b = (b ≡ 48) ⊎ (b ≡ 49)

-- the marks that the bytes write
abbrev pub ones : List ℕ → List Bool
ones bs = map (λ b. eqb b 49) bs

bit_mark : (b : ℕ) → Bit b → b ≡ cond (eqb b 49) 49 48
bit_mark b (inl e) = rw (ne_eqb b 49 (λ x. omega arith)) e
bit_mark b (inr e) = rw (eq-eqb b 49 e) e

pub bits_written : (bs : List ℕ) → AllByRecursion Bit bs → bs ≡ mark_bytes (ones bs)
bits_written [] a = refl
bits_written (b ∷ bs) a = let head = bit_mark b a.0 in let rest = bits_written bs a.1 in cc

mark_bit : (m : Bool) → Bit (cond m 49 48)
mark_bit true = inr refl
mark_bit false = inl refl

written_bits : (ms : List Bool) → AllByRecursion Bit (mark_bytes ms)
written_bits [] = tt
written_bits (m ∷ ms) = (mark_bit m, written_bits ms)

pub marked_bits : (P : List Bool → Type 0) (bs : List ℕ) → Marked P bs → AllByRecursion Bit bs
marked_bits P bs m = subst (AllByRecursion Bit) (sym m.written) (written_bits m.marks)

pub marked_from : (bs : List ℕ) → AllByRecursion Bit bs → 0 < length bs → Marked (λ _. Unit {0}) bs
marked_from bs a l = record { marks = ones bs; some = omega (arith, length-map bs (λ b. eqb b 49)); written = bits_written bs a; all = tt }

-- whether each byte is a bit
abbrev pub are_bits : List ℕ → Bool
are_bits bs = list_all (λ b. eqb b 48 || eqb b 49) bs

are_bits-true : (bs : List ℕ) → are_bits bs ≡ true → AllByRecursion Bit bs
are_bits-true [] e = tt
are_bits-true (b ∷ bs) e =
    let (here, rest) = and_parts (eqb b 48 || eqb b 49) (are_bits bs) e in (
      elim (cases_Bool (eqb b 48)) [ inl y ↦ inl (eqb-true b 48 y) | inr n ↦ inr (eqb-true b 49 (subst (λ x. (x || eqb b 49) ≡ true) n here)) ],
      are_bits-true bs rest,
    )

bits-are_bits : (bs : List ℕ) → AllByRecursion Bit bs → are_bits bs ≡ true
bits-are_bits [] a = refl
bits-are_bits (b ∷ bs) a = and_from (eqb b 48 || eqb b 49) (are_bits bs) (here a.0) (bits-are_bits bs a.1)
  where
    here : Bit b → (eqb b 48 || eqb b 49) ≡ true
    here (inl e) = let y = eq-eqb b 48 e in rw y refl
    here (inr e) = let y = eq-eqb b 49 e in let n = ne_eqb b 48 (λ x. omega arith) in rw (n, y) refl

pub marked_decides : (bs : List ℕ) → 0 < length bs → Decides (are_bits bs) (Marked (λ _. Unit {0}) bs)
marked_decides bs some = (λ e. marked_from bs (are_bits-true bs e) some, λ m. bits-are_bits bs (marked_bits _ bs m))

pub marks_same : (ms ns : List Bool) → mark_bytes ms ≡ mark_bytes ns → ms ≡ ns
marks_same [] [] e = refl
marks_same [] (n ∷ ns) e = absurd (omega (arith, ap length e))
marks_same (m ∷ ms) [] e = absurd (omega (arith, ap length e))
marks_same (true ∷ ms) (true ∷ ns) e = ap (λ l. true ∷ l) (marks_same ms ns (let q : mark_bytes ms ≡ mark_bytes ns = cc in q))
marks_same (false ∷ ms) (false ∷ ns) e = ap (λ l. false ∷ l) (marks_same ms ns (let q : mark_bytes ms ≡ mark_bytes ns = cc in q))
marks_same (true ∷ ms) (false ∷ ns) e = absurd (let z : ◌≡◌ {A = ℕ} 49 48 = ap (λ l. get_or l 0 0) e in omega arith)
marks_same (false ∷ ms) (true ∷ ns) e = absurd (let z : ◌≡◌ {A = ℕ} 48 49 = ap (λ l. get_or l 0 0) e in omega arith)

-- the bytes of marks are those that were read
pub marks_written : (bs : List ℕ) → Marked (λ _. Unit {0}) bs → bs ≡ mark_bytes (ones bs)
marks_written bs m = bits_written bs (marked_bits _ bs m)

pub marked_any : (bs : List ℕ) → Marked MarksFit bs → Marked (λ _. Unit {0}) bs
marked_any bs m = record { marks = m.marks; some = m.some; written = m.written; all = tt }

-- marks are fit by the words of either crate
pub fit_from : (m : Marks) (bs : List ℕ) → marked m ≡ ones bs → Marked MarksFit bs → Fit m
fit_from m bs same r =
    let own : ones bs ≡ r.marks = marks_same (ones bs) r.marks (sym (bits_written bs (marked_bits _ bs r)) ∙ r.written) in
    let fit = subst MarksFit (sym (same ∙ own)) r.all in
    let inside = true_inside (marked m) fit.serves.0 fit.serves.1 in
    record {
      some = omega (arith, r.some, ap length (same ∙ own));
      short = fit.short;
      divides = fit.divides;
      serves = (fit.serves.0, inside, get_or_default (marked m) fit.serves.0 true false inside ∙ fit.serves.1);
    }

pub marked_fit : (m : Marks) (bs : List ℕ) → marked m ≡ ones bs → Marked (λ _. Unit {0}) bs → Fit m → Marked MarksFit bs
marked_fit m bs same r fit = record {
  marks = ones bs;
  some = omega (arith, fit.some, ap length same);
  written = marks_written bs r;
  all = subst MarksFit same (record {
    short = fit.short;
    divides = fit.divides;
    serves = (fit.serves.0, get_or_default (marked m) fit.serves.0 false true fit.serves.1 ∙ fit.serves.2);
  });
}
