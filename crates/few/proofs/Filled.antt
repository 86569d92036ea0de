-- What `array::from_fn` puts at each place, by a closure that its calls leave as it was.
use Rattle.std.specs.Prelude.{◌≡◌, ℕ, zero, suc, ◌+◌, ◌<◌, ◌≤◌, List, slice_index_or}
use Rattle.std.proofs.Common.{subst, sym, ◌∙◌, arith, inl, inr}
use Rattle.std.proofs.lemmas.Bool.{cases_eq, cases_lt}
use Rattle.std.proofs.lemmas.List.{get_or_past}
use Rattle.std.specs.Array.{IsFromFnResult, IsFromFnResultFrom}
use Rattle.std.specs.Fn.{Called}
use denote.Param.Members.{Mut}

module _ {F B : Type 0} (g : Mut F (ℕ × Unit {0}) B) (P : ℕ → B → Type 0) (f : F) (n : ℕ) (h : (i : ℕ) (y : B) (f' : F) → i < n → Called g f (i, tt) y f' → P i y × (f' ≡ f)) where
  from : (ys : List B) (j m : ℕ) → j + m ≤ n → IsFromFnResultFrom g f ys j m → (i : ℕ) (d : B) → j ≤ i → i < j + m → P i (slice_index_or ys i d)
  from ys j zero few each i d low high = absurd (omega arith)
  from ys j (suc m) few each i d low high =
      let q = each.0 in
      let y = each.1 in
      let is = h j y q (omega arith) each.3 in
      elim (cases_eq i j) [
        | inl e ↦ subst (λ (k : ℕ). P k (slice_index_or ys k d)) (sym e) (subst (λ (x : B). P j x) (sym (each.2.1 d)) is.0)
        | inr ne ↦ from ys (j + 1) m (omega arith) (subst (λ (x : F). IsFromFnResultFrom g x ys (j + 1) m) is.1 each.4) i d (omega arith) (omega arith)
      ]

-- P holds at each of the n places
pub filled : {F B : Type 0} {g : Mut F (ℕ × Unit {0}) B} {f : F} {ys : List B} {n : ℕ} → IsFromFnResult g f ys n → (P : ℕ → B → Type 0)
    → ((i : ℕ) (y : B) (f' : F) → i < n → Called g f (i, tt) y f' → P i y × (f' ≡ f)) → (i : ℕ) (d : B) → i < n → P i (slice_index_or ys i d)
filled {g = g} {f = f} {ys = ys} {n = n} made P h i d short = from g P f n h ys 0 n (omega arith) made.each i d (omega arith) (omega arith)

-- each place has the value v of its number, and where there is no place that value is the default
pub filled_with : {F B : Type 0} {g : Mut F (ℕ × Unit {0}) B} {f : F} {ys : List B} {n : ℕ} → IsFromFnResult g f ys n → (v : ℕ → B)
    → ((i : ℕ) (y : B) (f' : F) → i < n → Called g f (i, tt) y f' → (y ≡ v i) × (f' ≡ f)) → (i : ℕ) (d : B) → (n ≤ i → d ≡ v i) → slice_index_or ys i d ≡ v i
filled_with {B = B} {ys = ys} {n = n} made v h i d past =
    elim (cases_lt i n) [
      | inl short ↦ filled made (λ j (y : B). y ≡ v j) h i d short
      | inr long ↦ get_or_past ys i d (omega (arith, made.long)) ∙ past long
    ]
