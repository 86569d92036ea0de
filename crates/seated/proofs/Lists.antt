-- Lists that are filtered, mapped and put one after the other.
use Rattle.std.proofs.Common.{◌≡◌, ◌≢◌, ℕ, zero, suc, ◌+◌, ◌<◌, ◌≤◌, Bool, false, List, [], ◌∷◌, ◌++◌, map, filter, length, slice_get, Option, Some, None, refl, sym, ap, inl, inr, arith}
use Rattle.std.specs.List.{AllByRecursion, range_with_len}
use Rattle.std.proofs.lemmas.Bool.{cases_Bool}
use Rattle.runs.specs.Job.{Apart}
use Rattle.runs.proofs.Lists.{all_append, all_map, Mem}

pub filter_filter : {X : Type 0} (p q : X → Bool) (xs : List X) → filter p (filter q xs) ≡ filter q (filter p xs)
filter_filter p q [] = refl
filter_filter p q (x ∷ xs) = let rec = filter_filter p q xs in elim (cases_Bool (p x)) [
  | inl y ↦ elim (cases_Bool (q x)) [
    | inl z ↦ rw (y, z, y) (ap (λ l. x ∷ l) rec)
    | inr z ↦ rw (y, z) rec
  ]
  | inr y ↦ elim (cases_Bool (q x)) [ inl z ↦ rw (y, z, y) rec | inr z ↦ rw (y, z) rec ]
]

pub filter_map : {X Y : Type 0} (p : Y → Bool) (f : X → Y) (xs : List X) → filter p (map f xs) ≡ map f (filter (λ x. p (f x)) xs)
filter_map p f [] = refl
filter_map p f (x ∷ xs) = let rec = filter_map p f xs in elim (cases_Bool (p (f x))) [
  | inl y ↦ rw y (ap (λ l. f x ∷ l) rec)
  | inr y ↦ rw y rec
]

pub filter_none : {X : Type 0} (p : X → Bool) (xs : List X) → AllByRecursion (λ x. p x ≡ false) xs → filter p xs ≡ []
filter_none p [] a = refl
filter_none p (x ∷ xs) a = rw a.0 (filter_none p xs a.1)

pub filter_length : {X : Type 0} (p : X → Bool) (xs : List X) → length (filter p xs) ≤ length xs
filter_length p [] = omega arith
filter_length p (x ∷ xs) = let rec = filter_length p xs in elim (cases_Bool (p x)) [
  | inl y ↦ rw y (omega arith)
  | inr y ↦ rw y (omega arith)
]

pub all_filter : {X : Type 0} (P : X → Type 0) (p : X → Bool) (xs : List X) → AllByRecursion P xs → AllByRecursion P (filter p xs)
all_filter P p [] a = tt
all_filter P p (x ∷ xs) a = elim (cases_Bool (p x)) [
  | inl y ↦ rw y (a.0, all_filter P p xs a.1)
  | inr y ↦ rw y (all_filter P p xs a.1)
]

pub apart_filter : {X : Type 0} (key : X → ℕ) (p : X → Bool) (xs : List X) → Apart key xs → Apart key (filter p xs)
apart_filter key p [] a = tt
apart_filter key p (x ∷ xs) a = elim (cases_Bool (p x)) [
  | inl y ↦ rw y (all_filter (λ z. key z ≢ key x) p xs a.0, apart_filter key p xs a.1)
  | inr y ↦ rw y (apart_filter key p xs a.1)
]

pub apart_push : {X : Type 0} (key : X → ℕ) (xs : List X) (y : X) → Apart key xs → AllByRecursion (λ x. key x ≢ key y) xs → Apart key (xs ++ y ∷ [])
apart_push key [] y a others = (tt, tt)
apart_push key (x ∷ xs) y a others =
    (all_append (λ z. key z ≢ key x) xs (y ∷ []) a.0 ((λ e. others.0 (sym e)), tt), apart_push key xs y a.1 others.1)

pub apart_to_map : {X Y : Type 0} (key : Y → ℕ) (f : X → Y) (xs : List X) → Apart (λ x. key (f x)) xs → Apart key (map f xs)
apart_to_map key f [] a = tt
apart_to_map key f (x ∷ xs) a = (all_map (λ y. key y ≢ key (f x)) f xs a.0, apart_to_map key f xs a.1)

range_past : (b a n : ℕ) → b < a → AllByRecursion (λ x. x ≢ b) (range_with_len a n)
range_past b a zero l = tt
range_past b a (suc n) l = ((λ e. omega arith), range_past b (a + 1) n (omega arith))

pub range_apart : (a n : ℕ) → Apart (λ x. x) (range_with_len a n)
range_apart a zero = tt
range_apart a (suc n) = (range_past a (a + 1) n (omega arith), range_apart (a + 1) n)

pub mem_at : {X : Type 0} (xs : List X) (k : ℕ) (x : X) → slice_get xs k ≡ Some x → Mem x xs
mem_at [] k x e = absurd (let z : ◌≡◌ {A = Option _} None (Some x) = e in cc)
mem_at (y ∷ xs) zero x e = inl (let z : ◌≡◌ {A = Option _} (Some y) (Some x) = e in cc)
mem_at (y ∷ xs) (suc k) x e = inr (mem_at xs k x e)
