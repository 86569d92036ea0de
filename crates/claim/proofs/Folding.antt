-- A fold that keeps the greatest value so far.
use Rattle.std.proofs.Common.{◌≡◌, ℕ, max, List, [], ◌∷◌, arith}
use Rattle.std.specs.List.{fold}
use Rattle.theory.specs.Demand.{greatest}

pub fold_greatest : {X : Type 0} (f : X → ℕ) (a : ℕ) (xs : List X) → fold (λ m x. max (f x) m) a xs ≡ max a (greatest f xs)
fold_greatest f a [] = omega arith
fold_greatest f a (x ∷ xs) = let rec = fold_greatest f (max (f x) a) xs in omega arith
