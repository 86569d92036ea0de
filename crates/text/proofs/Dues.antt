-- The value of the line that was due.
use Rattle.std.proofs.Common.{◌≡◌, ℕ, false, List, [], ◌∷◌, ◌++◌, sym, ap, ◌∙◌, subst}
use Rattle.std.proofs.lemmas.List.{append_assoc}
use Rattle.std.proofs.lemmas.Bool.{both_ways}
use Rattle.text.specs.declared.fault.Fault.TheVariants.{Range}
use Rattle.text.specs.declared.key.Key.{Key}
use Rattle.text.specs.declared.key.Sort as sorts
use Rattle.text.specs.declared.lines.Lines.{Lines}
use Rattle.text.specs.declared.value.Line.{Line}
use Rattle.text.specs.declared.value.Value as values
use Rattle.text.specs.declared.value.Value.{Value}
use Rattle.text.specs.Key.{key_bytes, sort_of}
use Rattle.text.specs.Slots.{slot, Ranged, RangedAs, number_fits}
use Rattle.text.specs.Take.{Due, Takes, Misses}
use Rattle.text.specs.Value.{Form, Means, Numeral}
use Rattle.text.proofs.Numbers.{numeral_same}

pub due_took : (k : Key) (l : Lines) (line : Line) (m : Lines) (bs : List ℕ) (d : Due k l line m) → d.bytes ≡ bs → Ranged k bs → Takes (slot k bs ∷ []) l m
due_took k l line m bs d e r = record {
  written = d.taken.written ∙ (ap (λ xs. key_bytes k ++ (xs ++ (10 ∷ m.rest.now))) e
      ∙ (ap (λ xs. key_bytes k ++ xs) (sym (append_assoc bs (10 ∷ []) m.rest.now)) ∙ sym (append_assoc (key_bytes k) (bs ++ 10 ∷ []) m.rest.now)));
  ranged = (r, tt);
  counted = d.counted;
}

pub due_missed : (k : Key) (l : Lines) (line : Line) (m : Lines) (d : Due k l line m) → Form (sort_of k) d.bytes → (Ranged k d.bytes → ⊥) → Misses k l (Range line.number)
due_missed k l line m d form no' = (d.placed, (d.bytes, m.rest.now, d.taken, form, no'))

number_of : (k : Key) (l : Lines) (line : Line) (m : Lines) (n : ℕ) (d : Due k l line m) → line.value ≡ values.TheVariants.Number n → Numeral n d.bytes
number_of k l line m n d e = (subst (Means (sort_of k) d.bytes) e d.means).1

pub number_missed : (k : Key) (l : Lines) (line : Line) (m : Lines) (n : ℕ) → sort_of k ≡ sorts.TheVariants.Number → Due k l line m → line.value ≡ values.TheVariants.Number n → number_fits k n ≡ false → Misses k l (Range line.number)
number_missed k l line m n s d e fit =
    let w = number_of k l line m n d e in
    due_missed k l line m d (subst (λ x. Form x d.bytes) (sym s) (n, w))
    (λ r. let other = subst (λ x. RangedAs x k d.bytes) s r in
    both_ways _ fit (ap (number_fits k) (numeral_same n other.0 d.bytes w other.1) ∙ other.2))
