-- What holds of each on a list, and who is on it.
use Rattle.std.proofs.Common.{◌≡◌, ℕ, zero, suc, ◌<◌, Bool, true, false, cond, ◌⊎◌, List, [], ◌∷◌, ◌++◌, map, flat_map, length, get_or, refl, ap, inl, inr, arith}
use Rattle.std.specs.List.{AllByRecursion}
use Rattle.std.proofs.lemmas.Bool.{cases_Bool}
use Rattle.std.proofs.lemmas.List.{map-append}

abbrev pub Mem : {X : Type 0} → X → List X → Type 0
Mem x [] = ⊥
Mem x (y ∷ ys) = (y ≡ x) ⊎ Mem x ys

pub all_weaker : {X : Type 0} (P Q : X → Type 0) → ((x : X) → P x → Q x) → (xs : List X) → AllByRecursion P xs → AllByRecursion Q xs
all_weaker P Q h [] a = tt
all_weaker P Q h (x ∷ xs) a = (h x a.0, all_weaker P Q h xs a.1)

pub all_both : {X : Type 0} (P Q R : X → Type 0) → ((x : X) → P x → Q x → R x) → (xs : List X) → AllByRecursion P xs → AllByRecursion Q xs → AllByRecursion R xs
all_both P Q R h [] a b = tt
all_both P Q R h (x ∷ xs) a b = (h x a.0 b.0, all_both P Q R h xs a.1 b.1)

pub all_map : {X Y : Type 0} (P : Y → Type 0) (f : X → Y) (xs : List X) → AllByRecursion (λ x. P (f x)) xs → AllByRecursion P (map f xs)
all_map P f [] a = tt
all_map P f (x ∷ xs) a = (a.0, all_map P f xs a.1)

pub all_unmap : {X Y : Type 0} (P : Y → Type 0) (f : X → Y) (xs : List X) → AllByRecursion P (map f xs) → AllByRecursion (λ x. P (f x)) xs
all_unmap P f [] a = tt
all_unmap P f (x ∷ xs) a = (a.0, all_unmap P f xs a.1)

pub all_append : {X : Type 0} (P : X → Type 0) (xs ys : List X) → AllByRecursion P xs → AllByRecursion P ys → AllByRecursion P (xs ++ ys)
all_append P [] ys a b = b
all_append P (x ∷ xs) ys a b = (a.0, all_append P xs ys a.1 b)

all_left : {X : Type 0} (P : X → Type 0) (xs ys : List X) → AllByRecursion P (xs ++ ys) → AllByRecursion P xs × AllByRecursion P ys
all_left P [] ys a = (tt, a)
all_left P (x ∷ xs) ys a = let (l, r) = all_left P xs ys a.1 in ((a.0, l), r)

pub all_flat : {X Y : Type 0} (P : Y → Type 0) (g : X → List Y) (xs : List X) → AllByRecursion (λ x. AllByRecursion P (g x)) xs → AllByRecursion P (flat_map g xs)
all_flat P g [] a = tt
all_flat P g (x ∷ xs) a = all_append P (g x) (flat_map g xs) a.0 (all_flat P g xs a.1)

pub all_unflat : {X Y : Type 0} (P : Y → Type 0) (g : X → List Y) (xs : List X) → AllByRecursion P (flat_map g xs) → AllByRecursion (λ x. AllByRecursion P (g x)) xs
all_unflat P g [] a = tt
all_unflat P g (x ∷ xs) a = let (l, r) = all_left P (g x) (flat_map g xs) a in (l, all_unflat P g xs r)

pub all_at : {X : Type 0} (P : X → Type 0) (xs : List X) (k : ℕ) (d : X) → k < length xs → AllByRecursion P xs → P (get_or xs k d)
all_at P [] k d l a = absurd (omega arith)
all_at P (x ∷ xs) zero d l a = a.0
all_at P (x ∷ xs) (suc k) d l a = all_at P xs k d (omega arith) a.1

pub all_mem : {X : Type 0} (P : X → Type 0) (xs : List X) (y : X) → Mem y xs → AllByRecursion P xs → P y
all_mem P [] y m a = absurd m
all_mem P (x ∷ xs) y m a = elim m [ inl e ↦ rw e at a.0 | inr n ↦ all_mem P xs y n a.1 ]

pub all_from_mem : {X : Type 0} (P : X → Type 0) (xs : List X) → ((y : X) → Mem y xs → P y) → AllByRecursion P xs
all_from_mem P [] h = tt
all_from_mem P (x ∷ xs) h = (h x (inl refl), all_from_mem P xs (λ y m. h y (inr m)))

pub mem_map : {X Y : Type 0} (f : X → Y) (xs : List X) (x : X) → Mem x xs → Mem (f x) (map f xs)
mem_map f [] x m = m
mem_map f (y ∷ xs) x m = elim m [ inl e ↦ inl (ap f e) | inr n ↦ inr (mem_map f xs x n) ]

-- one that passes, or none does
pub pick : {X : Type 0} (p : X → Bool) (xs : List X) → ((x : X) × Mem x xs × (p x ≡ true)) ⊎ AllByRecursion (λ x. p x ≡ false) xs
pick p [] = inr tt
pick p (x ∷ xs) = elim (cases_Bool (p x)) [
  | inl y ↦ inl (x, inl refl, y)
  | inr n ↦ elim (pick p xs) [ inl f ↦ inl (f.0, inr f.1, f.2) | inr a ↦ inr (n, a) ]
]

pub map_same : {X : Type 0} (k : X → X) (xs : List X) → AllByRecursion (λ x. k x ≡ x) xs → map k xs ≡ xs
map_same k [] a = refl
map_same k (x ∷ xs) a = rw a.0 (ap (λ ys. x ∷ ys) (map_same k xs a.1))

-- f after g is h
pub map_on : {X Y Z : Type 0} (f : Y → Z) (g : X → Y) (h : X → Z) (xs : List X) → AllByRecursion (λ x. f (g x) ≡ h x) xs → map f (map g xs) ≡ map h xs
map_on f g h [] a = refl
map_on f g h (x ∷ xs) a = rw a.0 (ap (λ r. h x ∷ r) (map_on f g h xs a.1))

pub map_again : {X Y : Type 0} (f : X → Y) (k : X → X) → ((x : X) → f (k x) ≡ f x) → (xs : List X) → map f (map k xs) ≡ map f xs
map_again f k h xs = map_on f k f xs (all_from_mem (λ x. f (k x) ≡ f x) xs (λ x _. h x))

pub map_map : {X Y Z : Type 0} (f : Y → Z) (g : X → Y) (xs : List X) → map f (map g xs) ≡ map (λ x. f (g x)) xs
map_map f g xs = map_on f g (λ x. f (g x)) xs (all_from_mem (λ x. f (g x) ≡ f (g x)) xs (λ _ _. refl))

pub map_flat : {X Y : Type 0} (g : X → List Y) (k : X → X) (f : Y → Y) → ((x : X) → g (k x) ≡ map f (g x)) → (xs : List X) → flat_map g (map k xs) ≡ map f (flat_map g xs)
map_flat g k f h [] = refl
map_flat g k f h (x ∷ xs) = rw (h x, map_flat g k f h xs, map-append f (g x) (flat_map g xs)) refl

pub cond_both : {X : Type 0} (b : Bool) (x y : X) (P : X → Type 0) → (b ≡ true → P x) → (b ≡ false → P y) → P (cond b x y)
cond_both true x y P f g = f refl
cond_both false x y P f g = g refl
