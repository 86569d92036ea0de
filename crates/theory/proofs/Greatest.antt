-- The greatest value on a list and below a number.
use Rattle.std.proofs.Common.{◌≡◌, ℕ, zero, suc, ◌+◌, ◌<◌, ◌≤◌, List, [], ◌∷◌, length, get_or, refl, ap, inl, inr, arith}
use Rattle.std.specs.List.{AllByRecursion}
use Rattle.std.proofs.lemmas.Bool.{cases_eq, cases_lt}
use Rattle.theory.specs.Demand.{greatest, greatest_below, sum_to}

pub greatest_mono : {X : Type 0} (P : X → Type 0) (f g : X → ℕ) → ((x : X) → P x → f x ≤ g x) → (xs : List X) → AllByRecursion P xs → greatest f xs ≤ greatest g xs
greatest_mono P f g h [] a = omega arith
greatest_mono P f g h (x ∷ xs) a =
    let rec = greatest_mono P f g h xs a.1 in
    let here = h x a.0 in
    omega arith

pub greatest_none : {X : Type 0} (P : X → Type 0) (f : X → ℕ) → ((x : X) → P x → f x ≡ 0) → (xs : List X) → AllByRecursion P xs → greatest f xs ≡ 0
greatest_none P f h [] a = refl
greatest_none P f h (x ∷ xs) a =
    let rec = greatest_none P f h xs a.1 in
    let here = h x a.0 in
    omega arith

pub greatest_at : {X : Type 0} (f : X → ℕ) (d : X) (xs : List X) (k : ℕ) → k < length xs → f (get_or xs k d) ≤ greatest f xs
greatest_at f d [] k l = absurd (omega arith)
greatest_at f d (x ∷ xs) zero l = omega arith
greatest_at f d (x ∷ xs) (suc k) l = let rec = greatest_at f d xs k (omega arith) in omega arith

pub greatest_attained : {X : Type 0} (f : X → ℕ) (d : X) (xs : List X) → 0 < length xs → (k : ℕ) × (k < length xs) × (f (get_or xs k d) ≡ greatest f xs)
greatest_attained f d [] l = absurd (omega arith)
greatest_attained f d (x ∷ []) l = (0, omega arith, omega arith)
greatest_attained f d (x ∷ (y ∷ ys)) l =
    let (k, in', e) = greatest_attained f d (y ∷ ys) (omega arith) in
    elim (cases_lt (f x) (greatest f (y ∷ ys))) [
      | inl less ↦ (suc k, omega arith, omega arith)
      | inr more ↦ (0, omega arith, omega arith)
    ]

pub most_at : (f : ℕ → ℕ) (d u : ℕ) → u < d → f u ≤ greatest_below f d
most_at f zero u l = omega arith
most_at f (suc d) u l = elim (cases_eq u d) [
  | inl e ↦ omega (arith, ap f e)
  | inr ne ↦ let rec = most_at f d u (omega arith) in omega arith
]

pub most_le : (f : ℕ → ℕ) (d m : ℕ) → ((u : ℕ) → u < d → f u ≤ m) → greatest_below f d ≤ m
most_le f zero m h = omega arith
most_le f (suc d) m h =
    let rec = most_le f d m (λ u l. h u (omega arith)) in
    omega (arith, h d (omega arith))

pub most_attained : (f : ℕ → ℕ) (d : ℕ) → 0 < d → (u : ℕ) × (u < d) × (f u ≡ greatest_below f d)
most_attained f zero l = absurd (omega arith)
most_attained f (suc zero) l = (0, omega arith, omega arith)
most_attained f (suc (suc d)) l =
    let (u, in', e) = most_attained f (suc d) (omega arith) in
    elim (cases_lt (f (suc d)) (greatest_below f (suc d))) [
      | inl less ↦ (u, omega arith, omega arith)
      | inr more ↦ (suc d, omega arith, omega arith)
    ]

pub sum_same : (f g : ℕ → ℕ) → ((k : ℕ) → f k ≡ g k) → (m : ℕ) → sum_to f m ≡ sum_to g m
sum_same f g h zero = refl
sum_same f g h (suc m) =
    let rec = sum_same (λ k. f (suc k)) (λ k. g (suc k)) (λ k. h (suc k)) m in
    omega (arith, h 1)

pub most_shift : (f g : ℕ → ℕ) (w d : ℕ) → 0 < d → ((u : ℕ) → u < d → g u ≡ f u + w) → greatest_below g d ≡ greatest_below f d + w
most_shift f g w d l h =
    let (u, below, e) = most_attained f d l in
    let up = most_at g d u below in
    let down = most_le g d (greatest_below f d + w) (λ v k. omega (arith, h v k, most_at f d v k)) in
    omega (arith, h u below)

pub greatest_le : {X : Type 0} (P : X → Type 0) (f : X → ℕ) (m : ℕ) → ((x : X) → P x → f x ≤ m) → (xs : List X) → AllByRecursion P xs → greatest f xs ≤ m
greatest_le P f m h [] a = omega arith
greatest_le P f m h (x ∷ xs) a =
    let rec = greatest_le P f m h xs a.1 in
    omega (arith, h x a.0)
