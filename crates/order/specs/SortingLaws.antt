-- Sorting keeps how often a number stands in a list.
use Rattle.std.specs.Prelude.{◌≡◌, ℕ, Bool, List, [], ◌∷◌, refl}
use Rattle.std.proofs.Common.{arith}
use Rattle.order.specs.Listing.{times}
use Rattle.order.specs.Sorting.{put, sorted}
use Rattle.std.proofs.lemmas.Bool.{cond_both}

times_put : (before : ℕ → ℕ → Bool) (e x : ℕ) (ys : List ℕ) → times e (put before x ys) ≡ times e (x ∷ ys)
times_put before e x [] = refl
times_put before e x (y ∷ ys) =
    let rec = times_put before e x ys in
    cond_both (before x y) (x ∷ (y ∷ ys)) (y ∷ put before x ys) (λ l. times e l ≡ times e (x ∷ (y ∷ ys))) (λ _. refl) (λ _. omega arith)

pub times_sorted : (before : ℕ → ℕ → Bool) (e : ℕ) (xs : List ℕ) → times e (sorted before xs) ≡ times e xs
times_sorted before e [] = refl
times_sorted before e (x ∷ xs) = let rec = times_sorted before e xs in omega (arith, times_put before e x (sorted before xs))
