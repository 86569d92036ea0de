-- What `find` says of the numbers below n, and `all` of the items of a list with their places.
use Rattle.std.specs.Prelude.{◌≡◌, ℕ, ◌<◌, ◌≤◌, Bool, true, false, List, length, refl, Decides, MatchBool, MatchOption}
use Rattle.std.proofs.Common.{[], ◌∷◌, ◌+◌, get_or, subst, sym, ap, ◌∙◌, arith}
use Rattle.std.specs.declared.option.Option.{Option}
use Rattle.std.specs.declared.option.Option.TheVariants.{Some, None}
use Rattle.std.specs.List.{AllWithin, HoldsAt, enumerate_from}
use Rattle.std.proofs.lemmas.Bool.{both_ways}
use Rattle.std.proofs.lemmas.List.FromFn.{get_or-enumerate_from, length-enumerate_from}

-- the first number of which Q holds, where P holds of those before
pub first_below : (r : Option ℕ) (P Q : ℕ → Type 0) (n : ℕ) → MatchOption r ((k : ℕ) → 0 ≤ k → k < n → P k) (λ v. (0 ≤ v) × (v < n) × Q v × ((k : ℕ) → 0 ≤ k → k < v → P k))
    → MatchOption r ((k : ℕ) → k < n → P k) (λ v. (v < n) × Q v × ((k : ℕ) → k < v → P k))
first_below None P Q n none = λ k below. none k (omega arith) below
first_below (Some v) P Q n found = (found.1, found.2, λ k below. found.3 k (omega arith) below)

with_place : {X : Type 0} (xs : List X) (i : ℕ) (d : X) → i < length xs → get_or (enumerate_from 0 xs) i (0, d) ≡ (i, get_or xs i d)
with_place {X} xs i d below = let z : 0 + i ≡ i = omega arith in get_or-enumerate_from 0 xs i (0, d) below ∙ ap (λ (j : ℕ). (j, get_or xs i d)) z

-- a test of each item with its place says whether P holds of all
pub all_placed : {X : Type 0} (r : Bool) (P : ℕ × X → Type 0) (xs : List X)
    → MatchBool r (AllWithin P (enumerate_from 0 xs) 0 (length (enumerate_from 0 xs))) ((k : ℕ) × (k < length (enumerate_from 0 xs)) × HoldsAt (λ p. P p → ⊥) (enumerate_from 0 xs) k)
    → Decides r ((i : ℕ) (d : X) → i < length xs → P (i, get_or xs i d))
all_placed true P xs all = (λ _ i d below. subst P (with_place xs i d below) (all i (0, d) (omega arith) (omega (arith, length-enumerate_from 0 xs))), λ _. refl)
all_placed false P [] (k, below, out) = (λ y. absurd (both_ways false refl y), λ p. absurd (omega arith))
all_placed false P (x ∷ xs) (k, below, out) =
    let inside : k < length (x ∷ xs) = omega (arith, length-enumerate_from 0 (x ∷ xs)) in
    (λ y. absurd (both_ways false refl y), λ p. absurd (out (0, x) (subst P (sym (with_place (x ∷ xs) k x inside)) (p k x inside))))
