-- The place of an engine in a rota, from the places on both sides of the last.
use Rattle.std.proofs.Common.{◌≡◌, ℕ, zero, suc, ◌+◌, Bool, true, false, cond, not, List, [], ◌∷◌, ◌++◌, filter, length, Some, Ok, Err, Option, Result, sym, refl, ap, ◌∙◌, arith, MatchResult}
use Rattle.order.specs.declared.rota.Rota.{Rota}
use Rattle.order.specs.Listing.{engines_of}
use Rattle.order.specs.Rota.{is_after, remembered, rota_list, rota_listing}
use Rattle.std.proofs.lemmas.Option.{slice_get_past}
use Rattle.std.specs.Result.{result_ok}
use Rattle.std.specs.List.{slice_get}

abbrev pub turn : Option ℕ → Bool → ℕ → Bool
turn last after e = cond after (is_after last e) (not (is_after last e))

-- the engines of the tag after the last, or the others
abbrev pub side : List ℕ → ℕ → Option ℕ → Bool → List ℕ
side tags tag last after = filter (λ e. turn last after e) (engines_of tags tag)

nth_front : (xs ys : List ℕ) (k e : ℕ) → slice_get xs k ≡ Some e → slice_get (xs ++ ys) k ≡ Some e
nth_front [] ys k e is = let z : ◌≡◌ {A = ℕ} 0 1 = cc in absurd (omega arith)
nth_front (x ∷ xs) ys zero e is = is
nth_front (x ∷ xs) ys (suc k) e is = nth_front xs ys k e is

nth_rest : (xs ys : List ℕ) (n k : ℕ) → n ≡ length xs + k → slice_get (xs ++ ys) n ≡ slice_get ys k
nth_rest [] ys n k is = let e : n ≡ k = omega arith in rw e refl
nth_rest (x ∷ xs) ys zero k is = absurd (omega arith)
nth_rest (x ∷ xs) ys (suc n) k is = nth_rest xs ys n k (omega arith)

module _ (rota : Rota) (tags : List ℕ) (tag : ℕ) (loads : List ℕ) (place : ℕ) (last : Option ℕ) (is : last ≡ remembered rota tag) where
  pub placed : (e : ℕ) → slice_get (side tags tag last true) place ≡ Some e → Some e ≡ slice_get (rota_listing rota [] tags tag loads) place
  placed e there = sym (nth_front (side tags tag last true) (side tags tag last false) place e there) ∙ ap (λ l. slice_get (rota_list l (engines_of tags tag)) place) is

  pub placed_later : (rest : ℕ) → place ≡ length (side tags tag last true) + rest → (second : Result ℕ ℕ) → MatchResult second (λ e. slice_get (side tags tag last false) rest ≡ Some e) (λ more. rest ≡ length (side tags tag last false) + more) → result_ok second ≡ slice_get (rota_listing rota [] tags tag loads) place
  placed_later rest past second there =
      found second there ∙ sym (nth_rest (side tags tag last true) (side tags tag last false) place rest past) ∙ ap (λ l. slice_get (rota_list l (engines_of tags tag)) place) is
    where
      found : (s : Result ℕ ℕ) → MatchResult s (λ e. slice_get (side tags tag last false) rest ≡ Some e) (λ more. rest ≡ length (side tags tag last false) + more) → result_ok s ≡ slice_get (side tags tag last false) rest
      found (Ok e) at = sym at
      found (Err more) at = sym (slice_get_past (side tags tag last false) rest (omega arith))
