-- The greatest of some values: a turn of the loop that finds it, and what it is.
use Rattle.std.proofs.Common.{◌≡◌, ℕ, zero, suc, ◌<◌, ◌≤◌, max, Bool, true, false, cond, ◌⊎◌, sym, refl, ap, ◌∙◌, inl, inr, add-one, List, length, get_or, take, arith}
use Rattle.std.specs.List.{fold, zip}
use Rattle.std.proofs.lemmas.List.{take_more, take_all}
use Rattle.std.proofs.lemmas.List.Sums.{fold_push}
use Rattle.std.proofs.lemmas.Slice.Zip.{get_or-zip, length-zip}
use Rattle.std.proofs.lemmas.Bool.{cases_Bool, cases_eq, cases_lt}
use Rattle.window.specs.Greatest.{greatest}

abbrev pub more : ℕ → Bool × ℕ → ℕ
more most p = cond p.0 (max p.1 most) most

more_is : (b : Bool) (x m : ℕ) → cond b (max x m) m ≡ max m (cond b x 0)
more_is true x m = omega arith
more_is false x m = omega arith

-- the greatest so far, of each place and its value in turn
greatest_front : (ps : List Bool) (vs : List ℕ) (n : ℕ) → n ≤ length ps → n ≤ length vs → fold more 0 (take n (zip ps vs)) ≡ greatest (λ u. get_or ps u false) (λ u. get_or vs u 0) n
unfolding greatest
greatest_front ps vs zero long longer = refl
greatest_front ps vs (suc n) long longer =
    let rec = greatest_front ps vs n (omega arith) (omega arith) in
    let here = get_or-zip ps vs n (false, 0) (omega arith) (omega arith) in
    let turn = ap (λ l. fold more 0 l) (sym (ap (λ k. take k (zip ps vs)) (add-one n)) ∙ take_more (zip ps vs) n (false, 0) (omega (arith, length-zip ps vs))) ∙ fold_push more 0 (take n (zip ps vs)) _ in
    turn ∙ ap (λ p. more (fold more 0 (take n (zip ps vs))) p) here ∙ more_is (get_or ps n false) (get_or vs n 0) _ ∙ ap (λ m. max m (cond (get_or ps n false) (get_or vs n 0) 0)) rec

-- the greatest of them all
pub greatest_of : (ps : List Bool) (vs : List ℕ) (n : ℕ) → length ps ≡ n → length vs ≡ n → fold more 0 (zip ps vs) ≡ greatest (λ u. get_or ps u false) (λ u. get_or vs u 0) n
greatest_of ps vs n long longer =
    ap (λ l. fold more 0 l) (sym (take_all n (zip ps vs) (omega (arith, length-zip ps vs)))) ∙ greatest_front ps vs n (omega arith) (omega arith)

pub greatest_at : (p : ℕ → Bool) (f : ℕ → ℕ) (n u : ℕ) → u < n → p u ≡ true → f u ≤ greatest p f n
unfolding greatest
greatest_at p f zero u below y = absurd (omega arith)
greatest_at p f (suc n) u below y = elim (cases_eq u n) [
  | inl e ↦ let here : cond (p n) (f n) 0 ≡ f n = ap (λ b. cond b (f n) 0) (ap p (sym e) ∙ y) in omega (arith, ap f e)
  | inr ne ↦ let rec = greatest_at p f n u (omega arith) y in omega arith
]

pub greatest_le : (p : ℕ → Bool) (f : ℕ → ℕ) (n m : ℕ) → ((u : ℕ) → u < n → p u ≡ true → f u ≤ m) → greatest p f n ≤ m
unfolding greatest
greatest_le p f zero m h = omega arith
greatest_le p f (suc n) m h =
    let rec = greatest_le p f n m (λ u below. h u (omega arith)) in
    elim (cases_Bool (p n)) [
      | inl y ↦ let here = h n (omega arith) y in rw y (omega arith)
      | inr no' ↦ rw no' (omega arith)
    ]

-- it is 0, and then nothing passes or all that passes is 0, or it is one of the values
pub greatest_found : (p : ℕ → Bool) (f : ℕ → ℕ) (n : ℕ) → (((u : ℕ) → u < n → p u ≡ false) × (greatest p f n ≡ 0)) ⊎ ((u : ℕ) × (u < n) × (p u ≡ true) × (f u ≡ greatest p f n))
unfolding greatest
greatest_found p f zero = inl (λ u below. absurd (omega arith), refl)
greatest_found p f (suc n) = elim (cases_Bool (p n)) [
  | inl y ↦ elim (greatest_found p f n) [
    | inl none ↦ inr (n, omega arith, y, rw y (omega (arith, none.1)))
    | inr some ↦ elim (cases_lt (f n) (greatest p f n)) [
      | inl less ↦ inr (some.0, omega (arith, some.1), some.2, rw y (omega (arith, some.3)))
      | inr more ↦ inr (n, omega arith, y, rw y (omega arith))
    ]
  ]
  | inr no' ↦ elim (greatest_found p f n) [
    | inl none ↦ inl (λ u below. elim (cases_eq u n) [ inl e ↦ ap p e ∙ no' | inr ne ↦ none.0 u (omega arith) ], rw no' (omega (arith, none.1)))
    | inr some ↦ inr (some.0, omega (arith, some.1), some.2, rw no' (omega (arith, some.3)))
  ]
]

pub greatest_same : (p : ℕ → Bool) (f g : ℕ → ℕ) (n : ℕ) → ((u : ℕ) → u < n → p u ≡ true → f u ≡ g u) → greatest p f n ≡ greatest p g n
greatest_same p f g n same =
    let up = greatest_le p f n (greatest p g n) (λ u below y. omega (arith, same u below y, greatest_at p g n u below y)) in
    let down = greatest_le p g n (greatest p f n) (λ u below y. omega (arith, same u below y, greatest_at p f n u below y)) in
    omega arith

pub greatest_tested : (p q : ℕ → Bool) (f : ℕ → ℕ) (n : ℕ) → ((u : ℕ) → p u ≡ q u) → greatest p f n ≡ greatest q f n
unfolding greatest
greatest_tested p q f zero same = refl
greatest_tested p q f (suc n) same =
    let rec = greatest_tested p q f n same in
    let here = ap (λ b. cond b (f n) 0) (same n) in
    omega arith

pub greatest_zero : (p : ℕ → Bool) (f : ℕ → ℕ) (n : ℕ) → ((u : ℕ) → p u ≡ true → ⊥) → greatest p f n ≡ 0
greatest_zero p f n none =
    let low = greatest_le p f n 0 (λ u below y. absurd (none u y)) in
    omega arith
