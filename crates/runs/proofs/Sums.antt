-- Sums over lists.
use Rattle.std.proofs.Common.{◌≡◌, ℕ, ◌+◌, ◌≤◌, Bool, true, false, cond, List, [], ◌∷◌, map, flat_map, reverse, filter, sum_by, count_by, refl, sym, ◌∙◌, inl, inr, arith}
use Rattle.std.specs.List.{AllByRecursion}
use Rattle.std.proofs.lemmas.List.Sums.{sum_by-cons, sum_by-append}
use Rattle.std.proofs.lemmas.List.Sorted.{sum_by-IsPermutation, IsPermutation-reverse}
use Rattle.runs.proofs.Lists.{Mem}

abbrev pub bit : Bool → ℕ
bit b = cond b 1 0

pub sum_map : {X Y : Type 0} (f : Y → ℕ) (g : X → Y) (xs : List X) → sum_by f (map g xs) ≡ sum_by (λ x. f (g x)) xs
sum_map f g [] = refl
sum_map f g (x ∷ xs) = omega (arith, sum_map f g xs, sum_by-cons f (g x) (map g xs), sum_by-cons (λ x. f (g x)) x xs)

pub sum_flat : {X Y : Type 0} (f : Y → ℕ) (g : X → List Y) (xs : List X) → sum_by f (flat_map g xs) ≡ sum_by (λ x. sum_by f (g x)) xs
sum_flat f g [] = refl
sum_flat f g (x ∷ xs) = omega (arith, sum_flat f g xs, sum_by-append f (g x) (flat_map g xs), sum_by-cons (λ x. sum_by f (g x)) x xs)

pub sum_reverse : {X : Type 0} (f : X → ℕ) (xs : List X) → sum_by f (reverse xs) ≡ sum_by f xs
sum_reverse f xs = sum_by-IsPermutation f xs (reverse xs) (IsPermutation-reverse xs)

pub sum_filter : {X : Type 0} (f : X → ℕ) (p : X → Bool) (xs : List X) → sum_by f (filter p xs) ≡ sum_by (λ x. cond (p x) (f x) 0) xs
sum_filter f p [] = refl
sum_filter f p (x ∷ xs) = go (p x) (sum_filter f p xs) ∙ sym (sum_by-cons (λ x. cond (p x) (f x) 0) x xs)
  where
    go : (b : Bool) → sum_by f (filter p xs) ≡ sum_by (λ x. cond (p x) (f x) 0) xs
        → sum_by f (cond b (x ∷ filter p xs) (filter p xs)) ≡ cond b (f x) 0 + sum_by (λ x. cond (p x) (f x) 0) xs
    go true rec = omega (arith, sum_by-cons f x (filter p xs))
    go false rec = omega arith

pub sum_same : {X : Type 0} (P : X → Type 0) (f g : X → ℕ) → ((x : X) → P x → f x ≡ g x) → (xs : List X) → AllByRecursion P xs → sum_by f xs ≡ sum_by g xs
sum_same P f g h [] a = refl
sum_same P f g h (x ∷ xs) a = omega (arith, sum_same P f g h xs a.1, h x a.0, sum_by-cons f x xs, sum_by-cons g x xs)

pub sum_le : {X : Type 0} (P : X → Type 0) (f g : X → ℕ) → ((x : X) → P x → f x ≤ g x) → (xs : List X) → AllByRecursion P xs → sum_by f xs ≤ sum_by g xs
sum_le P f g h [] a = omega arith
sum_le P f g h (x ∷ xs) a = omega (arith, sum_le P f g h xs a.1, h x a.0, sum_by-cons f x xs, sum_by-cons g x xs)

pub sum_le_each : {X : Type 0} (f g : X → ℕ) → ((x : X) → f x ≤ g x) → (xs : List X) → sum_by f xs ≤ sum_by g xs
sum_le_each f g h [] = omega arith
sum_le_each f g h (x ∷ xs) = omega (arith, sum_le_each f g h xs, h x, sum_by-cons f x xs, sum_by-cons g x xs)

-- one has less, and none has more
pub sum_lt : {X : Type 0} (f g : X → ℕ) → ((x : X) → f x ≤ g x) → (xs : List X) (y : X) → Mem y xs → f y + 1 ≤ g y → sum_by f xs + 1 ≤ sum_by g xs
sum_lt f g h [] y m l = absurd m
sum_lt f g h (x ∷ xs) y m l = elim m [
  | inl e ↦
      let here : f x + 1 ≤ g x = rw e l in
      omega (arith, sum_le_each f g h xs, sum_by-cons f x xs, sum_by-cons g x xs)
  | inr n ↦ omega (arith, sum_lt f g h xs y n l, h x, sum_by-cons f x xs, sum_by-cons g x xs)
]

pub sum_zero : {X : Type 0} (f : X → ℕ) (xs : List X) → AllByRecursion (λ x. f x ≡ 0) xs → sum_by f xs ≡ 0
sum_zero f [] a = refl
sum_zero f (x ∷ xs) a = omega (arith, sum_zero f xs a.1, a.0, sum_by-cons f x xs)

pub sum_none : {X : Type 0} (f : X → ℕ) (xs : List X) → sum_by f xs ≡ 0 → AllByRecursion (λ x. f x ≡ 0) xs
sum_none f [] h = tt
sum_none f (x ∷ xs) h = (omega (arith, sum_by-cons f x xs), sum_none f xs (omega (arith, sum_by-cons f x xs)))

pub count_none : {X : Type 0} (p : X → Bool) (xs : List X) → AllByRecursion (λ x. p x ≡ false) xs → count_by p xs ≡ 0
count_none p [] a = refl
count_none p (x ∷ xs) a =
    let none : bit (p x) ≡ 0 = rw a.0 refl in
    omega (arith, count_none p xs a.1, sum_by-cons (λ x. bit (p x)) x xs)

-- a step that raises f by no more than g
pub sum_shift : {X : Type 0} (P : X → Type 0) (f g : X → ℕ) (k : X → X) → ((x : X) → P x → f (k x) + g x ≤ f x + g (k x))
    → (xs : List X) → AllByRecursion P xs → sum_by f (map k xs) + sum_by g xs ≤ sum_by f xs + sum_by g (map k xs)
sum_shift P f g k h [] a = omega arith
sum_shift P f g k h (x ∷ xs) a =
    omega (
      arith,
      sum_shift P f g k h xs a.1,
      h x a.0,
      sum_by-cons f x xs,
      sum_by-cons g x xs,
      sum_by-cons f (k x) (map k xs),
      sum_by-cons g (k x) (map k xs),
    )

pub sum_two : {X : Type 0} (P : X → Type 0) (f g h : X → ℕ) → ((x : X) → P x → f x ≤ g x + h x) → (xs : List X) → AllByRecursion P xs
    → sum_by f xs ≤ sum_by g xs + sum_by h xs
sum_two P f g h k [] a = omega arith
sum_two P f g h k (x ∷ xs) a = omega (arith, sum_two P f g h k xs a.1, k x a.0, sum_by-cons f x xs, sum_by-cons g x xs, sum_by-cons h x xs)

mem_count : {X : Type 0} (p : X → Bool) (xs : List X) (y : X) → Mem y xs → p y ≡ true → 1 ≤ count_by p xs
mem_count p [] y m e = absurd m
mem_count p (x ∷ xs) y m e =
    let here = sum_by-cons (λ x. bit (p x)) x xs in
    elim m [
      | inl q ↦ let one : bit (p x) ≡ 1 = rw (q, e) refl in omega arith
      | inr n ↦ omega (arith, mem_count p xs y n e)
    ]

-- of which there is one at most
pub unique : {X : Type 0} (p : X → Bool) (xs : List X) → count_by p xs ≤ 1 → (a b : X) → Mem a xs → Mem b xs → p a ≡ true → p b ≡ true → a ≡ b
unique p [] l a b m n h k = absurd m
unique p (x ∷ xs) l a b m n h k =
    let here = sum_by-cons (λ x. bit (p x)) x xs in
    elim m [
      | inl d ↦ elim n [
        | inl e ↦ sym d ∙ e
        | inr e ↦ let one : bit (p x) ≡ 1 = rw (d, h) refl in absurd (omega (arith, mem_count p xs b e k))
      ]
      | inr d ↦ elim n [
        | inl e ↦ let one : bit (p x) ≡ 1 = rw (e, k) refl in absurd (omega (arith, mem_count p xs a d h))
        | inr e ↦ unique p xs (omega arith) a b d e h k
      ]
    ]
