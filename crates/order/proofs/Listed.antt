-- A list that has every engine of a tag once, by places.
use Rattle.std.proofs.Common.{◌≡◌, ℕ, zero, suc, ◌<◌, ◌≤◌, true, eqb, ◌⊎◌, List, [], ◌∷◌, length, Some, None, Option, refl, ap, inl, inr, arith}
use Rattle.engine.specs.Roster.{tag_of}
use Rattle.order.specs.Listing.{EachOnce, times}
use Rattle.std.proofs.lemmas.Bool.{cases_Bool, cases_eq, eqb-true, eq-eqb}
use Rattle.std.proofs.lemmas.Option.{none-some, same_Some}
use Rattle.std.specs.List.{slice_get}

cases_some : (o : Option ℕ) (x : ℕ) → (o ≡ Some x) ⊎ (o ≡ Some x → ⊥)
cases_some None x = inr (λ is. none-some _ is)
cases_some (Some y) x = elim (cases_eq y x) [ inl same ↦ inl (ap Some same) | inr other ↦ inr (λ is. other (same_Some _ _ is)) ]

place_of : (e : ℕ) (xs : List ℕ) → 1 ≤ times e xs → (k : ℕ) × (k < length xs) × (slice_get xs k ≡ Some e)
place_of e [] some = absurd (omega arith)
place_of e (x ∷ xs) some =
    elim (cases_Bool (eqb x e)) [
      | inl same ↦ (0, omega arith, ap Some (eqb-true x e same))
      | inr other ↦ let rec = place_of e xs (omega (arith, rw other at some)) in (suc rec.0, omega (arith, rec.1), rec.2)
    ]

times_at : (e : ℕ) (xs : List ℕ) (k : ℕ) → slice_get xs k ≡ Some e → 1 ≤ times e xs
times_at e [] k is = absurd (none-some _ is)
times_at e (x ∷ xs) zero is = let same : eqb x e ≡ true = eq-eqb x e (same_Some _ _ is) in rw same (omega arith)
times_at e (x ∷ xs) (suc k) is = let rec = times_at e xs k is in omega arith

one_place : (e : ℕ) (xs : List ℕ) (j k : ℕ) → times e xs ≤ 1 → slice_get xs j ≡ Some e → slice_get xs k ≡ Some e → j ≡ k
one_place e [] j k once is so = absurd (none-some _ is)
one_place e (x ∷ xs) zero zero once is so = refl
one_place e (x ∷ xs) zero (suc k) once is so = let same : eqb x e ≡ true = eq-eqb x e (same_Some _ _ is) in let more = times_at e xs k so in absurd (omega (arith, rw same at once))
one_place e (x ∷ xs) (suc j) zero once is so = let same : eqb x e ≡ true = eq-eqb x e (same_Some _ _ so) in let more = times_at e xs j is in absurd (omega (arith, rw same at once))
one_place e (x ∷ xs) (suc j) (suc k) once is so = ap suc (one_place e xs j k (omega arith) is so)

module _ (tags : List ℕ) (tag : ℕ) (list : List ℕ) (each : EachOnce tags tag list) where
  -- an engine of the tag has a place
  pub placed : (e : ℕ) → tag_of tags e ≡ Some tag → (k : ℕ) × (k < length list) × (slice_get list k ≡ Some e)
  placed e is = place_of e list (omega (arith, each.once e is))

  -- an engine that has a place has the tag
  pub tagged : (e k : ℕ) → slice_get list k ≡ Some e → tag_of tags e ≡ Some tag
  tagged e k is = elim (cases_some (tag_of tags e) tag) [ inl so ↦ so | inr isn't ↦ absurd (omega (arith, each.never e isn't, times_at e list k is)) ]

  -- and it has no other place
  pub apart : (e j k : ℕ) → slice_get list j ≡ Some e → slice_get list k ≡ Some e → j ≡ k
  apart e j k is so = one_place e list j k (omega (arith, each.once e (tagged e j is))) is so
