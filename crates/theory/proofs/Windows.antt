-- What the windows of a branch, and the best branch, ask between two times after an arrival.
use Rattle.std.proofs.Common.{◌≡◌, ℕ, ◌<◌, ◌≤◌, List, [], ◌∷◌, length, get_or, refl, arith}
use Rattle.std.specs.List.{AllByRecursion}
use Rattle.std.proofs.lemmas.List.Sums.{sum_by-cons}
use Rattle.std.proofs.lemmas.Bool.Decides.{nat_tests}
use Rattle.theory.specs.Pattern.{Window, Pattern, FitsIn, WellFormed, share, inner}
use Rattle.theory.specs.Demand.{best}
use Rattle.theory.proofs.Greatest.{greatest_mono, greatest_none, greatest_at, greatest_attained}

share_mono : (u v y z : ℕ) (i : Window) → u ≤ v → y ≤ z → share v y i ≤ share u z i
share_mono u v y z i a b = grind (arith, nat_tests)

pub inner_mono : (u v y z : ℕ) (b : List Window) → u ≤ v → y ≤ z → inner b v y ≤ inner b u z
inner_mono u v y z [] p q = omega arith
inner_mono u v y z (i ∷ b) p q =
    let rec = inner_mono u v y z b p q in
    omega (arith, sum_by-cons (share v y) i b, sum_by-cons (share u z) i b, share_mono u v y z i p q)

-- past the deadline nothing is added
share_full : (d u y z : ℕ) (i : Window) → FitsIn d i → d ≤ y → share u z i ≤ share u y i
share_full d u y z i w a = let o = w.opens in let c = w.closes in grind (arith, nat_tests)

inner_full : (d u y z : ℕ) (b : List Window) → AllByRecursion (FitsIn d) b → d ≤ y → inner b u z ≤ inner b u y
inner_full d u y z [] w a = omega arith
inner_full d u y z (i ∷ b) w a =
    let rec = inner_full d u y z b w.1 a in
    omega (arith, sum_by-cons (share u z) i b, sum_by-cons (share u y) i b, share_full d u y z i w.0 a)

share_short : (d u y : ℕ) (i : Window) → FitsIn d i → y ≤ u → share u y i ≡ 0
share_short d u y i w a = let o = w.opens in let c = w.closes in grind (arith, nat_tests)

inner_short : (d u y : ℕ) (b : List Window) → AllByRecursion (FitsIn d) b → y ≤ u → inner b u y ≡ 0
inner_short d u y [] w a = refl
inner_short d u y (i ∷ b) w a =
    let rec = inner_short d u y b w.1 a in
    omega (arith, sum_by-cons (share u y) i b, share_short d u y i w.0 a)

share_past : (d u y : ℕ) (i : Window) → FitsIn d i → d ≤ u → share u y i ≡ 0
share_past d u y i w a = let o = w.opens in let c = w.closes in grind (arith, nat_tests)

pub inner_past : (d u y : ℕ) (b : List Window) → AllByRecursion (FitsIn d) b → d ≤ u → inner b u y ≡ 0
inner_past d u y [] w a = refl
inner_past d u y (i ∷ b) w a =
    let rec = inner_past d u y b w.1 a in
    omega (arith, sum_by-cons (share u y) i b, share_past d u y i w.0 a)

module _ (pat : Pattern) (ok : WellFormed pat) where
  pub best_mono : (u v y z : ℕ) → u ≤ v → y ≤ z → best pat v y ≤ best pat u z
  best_mono u v y z p q =
      greatest_mono (AllByRecursion (FitsIn pat.deadline)) (λ b. inner b v y) (λ b. inner b u z) (λ b w. inner_mono u v y z b p q) pat.branches ok.windows

  pub best_full : (u y z : ℕ) → pat.deadline ≤ y → pat.deadline ≤ z → best pat u y ≡ best pat u z
  best_full u y z p q =
      let a = greatest_mono (AllByRecursion (FitsIn pat.deadline)) (λ b. inner b u y) (λ b. inner b u z) (λ b w. inner_full pat.deadline u z y b w q) pat.branches ok.windows in
      let b = greatest_mono (AllByRecursion (FitsIn pat.deadline)) (λ b. inner b u z) (λ b. inner b u y) (λ b w. inner_full pat.deadline u y z b w p) pat.branches ok.windows in
      omega arith

  pub best_short : (u y : ℕ) → y ≤ u → best pat u y ≡ 0
  best_short u y p =
      greatest_none (AllByRecursion (FitsIn pat.deadline)) (λ b. inner b u y) (λ b w. inner_short pat.deadline u y b w p) pat.branches ok.windows

  pub best_past : (u y : ℕ) → pat.deadline ≤ u → best pat u y ≡ 0
  best_past u y p =
      greatest_none (AllByRecursion (FitsIn pat.deadline)) (λ b. inner b u y) (λ b w. inner_past pat.deadline u y b w p) pat.branches ok.windows

  pub best_at : (u y k : ℕ) → k < length pat.branches → inner (get_or pat.branches k []) u y ≤ best pat u y
  best_at u y k l = greatest_at (λ b. inner b u y) [] pat.branches k l

  pub best_attained : (u y : ℕ) → (k : ℕ) × (k < length pat.branches) × (inner (get_or pat.branches k []) u y ≡ best pat u y)
  best_attained u y = greatest_attained (λ b. inner b u y) [] pat.branches ok.some_branch
