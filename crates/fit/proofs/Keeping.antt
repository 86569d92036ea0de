-- The plateaus that are kept of claims, as they change.
use Rattle.std.proofs.Common.{◌≡◌, ◌≢◌, ℕ, zero, suc, ◌<◌, List, [], ◌∷◌, length, get_or, Bor, Some, refl, sym, ap, ◌∙◌, subst, inl, inr, arith}
use Rattle.std.specs.Prelude.{slice_get}
use Rattle.std.proofs.Math.ListN.{replicate, set}
use Rattle.std.proofs.lemmas.Bool.{cases_eq}
use Rattle.std.proofs.lemmas.List.{get_or-replicate, length-replicate}
use Rattle.std.proofs.lemmas.Option.{get_or_from_slice_get, slice_get-get_or, slice_get_read, slice_get_within}
use Rattle.claim.specs.declared.claim.Claim.{Claim}
use Rattle.claim.specs.declared.plateau.Plateau.{Plateau}
use Rattle.claim.specs.Asking.{given}
use Rattle.claim.specs.Plateau.{Level}
use Rattle.fit.specs.Fits.{Kept}
use Rattle.fit.proofs.Spending.{at_place, shown, there}

pub set_same : {X : Type 0} (xs : List X) (i : ℕ) (x y : X) → slice_get (set xs i x) i ≡ Some y → x ≡ y
set_same [] i x y is = cc
set_same (z ∷ xs) zero x y is = cc
set_same (z ∷ xs) (suc i) x y is = set_same xs i x y is

pub set_other : {X : Type 0} (xs : List X) (i j : ℕ) (x : X) → j ≢ i → slice_get (set xs i x) j ≡ slice_get xs j
set_other [] i j x ne = refl
set_other (z ∷ xs) zero zero x ne = absurd (ne refl)
set_other (z ∷ xs) zero (suc j) x ne = refl
set_other (z ∷ xs) (suc i) zero x ne = refl
set_other (z ∷ xs) (suc i) (suc j) x ne = set_other xs i j x (λ e. ne (ap suc e))

pub kept_none : (cs : List Claim) (n : ℕ) → Kept cs (replicate n (record { most = 0; since = 1; until = 0 }))
kept_none cs n i c a of is =
    let blank : Plateau = record { most = 0; since = 1; until = 0 } in
    let below = slice_get_within (replicate n blank) i a is in
    let same : blank ≡ a = sym (get_or-replicate n i blank a (omega (arith, length-replicate n blank))) ∙ get_or_from_slice_get (replicate n blank) i a a is in
    subst (Level (given c)) same (λ m spans. absurd (omega (arith, spans.0, spans.1)))

pub kept_set : (cs : List Claim) (ps : List Plateau) (i : ℕ) (c : Claim) (a : Plateau) → Kept cs ps → slice_get cs i ≡ Some c → Level (given c) a → Kept cs (set ps i a)
kept_set cs ps i c a kept at level j d b of is = elim (cases_eq j i) [
  | inl here ↦
      let same : c ≡ d = let e = sym at ∙ ap (slice_get cs) (sym here) ∙ of in cc in
      let new : a ≡ b = set_same ps i a b (ap (slice_get (set ps i a)) (sym here) ∙ is) in
      subst (λ (x : Claim). Level (given x) b) same (subst (λ (x : Plateau). Level (given c) x) new level)
  | inr other ↦ kept j d b of (sym (set_other ps i j a other) ∙ is)
]

module _ (bs : List (Bor Claim)) (i : ℕ) (b : Bor Claim) (below : i < length bs) (is : b ≡ get_or bs i b) where
  pub claim_at : slice_get (shown bs) i ≡ Some b.now
  claim_at = slice_get_read (shown bs) (length (shown bs)) i b.now refl (there bs i b below is) (sym (at_place bs i b below is))

  pub level_at : (ps : List Plateau) (d : Plateau) → Kept (shown bs) ps → i < length ps → Level (given b.now) (get_or ps i d)
  level_at ps d kept within = kept i b.now (get_or ps i d) claim_at (slice_get-get_or ps i d within)
