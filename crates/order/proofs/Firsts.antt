-- The best by an order's `Less` is its least.
use Rattle.std.proofs.Common.{◌≡◌, ℕ, ◌+◌, ◌<◌, true, false, List, [], ◌∷◌, length, get_or, Ordering, Less, Equal, Greater, sym, refl, ap, ◌∙◌, inl, inr, subst, arith}
use Rattle.std.specs.Cmp.{IsTotalOrder}
use Rattle.std.specs.Ordering.{is_lt}
use Rattle.std.specs.List.{IsFirstBest}
use Rattle.std.proofs.lemmas.Bool.{true≢false, false≢true, cases_eq, cases_order}
use Rattle.std.proofs.lemmas.List.MinMax.{ranks_by, IsFirstBest-none, IsFirstBest-keeps, IsFirstBest-takes}
use Rattle.order.specs.Least.{FirstLeast}

is_less : (o : Ordering) → is_lt o ≡ true → o ≡ Less
is_less Less e = refl
is_less Equal e = absurd (false≢true e)
is_less Greater e = absurd (false≢true e)

pub least_from_best : {K : Type 0} (cmp : K → K → Ordering) (items : List K) (n i : ℕ) → n ≡ length items → IsFirstBest (λ x y. is_lt (cmp x y)) items n i → FirstLeast cmp items i
least_from_best cmp items n i all best = record {
  within = omega (arith, best.0);
  before = λ k d lt. is_less _ (best.2 k d lt);
  after = λ k d lt low. best.1 k d (omega arith);
}

-- the first alone is the best
pub alone : {K : Type 0} {cmp : K → K → Ordering} → IsTotalOrder cmp → (items : List K) (i b : ℕ) → i ≡ 0 → (i ≡ 0 → b ≡ 0) → IsFirstBest (λ v w. is_lt (cmp v w)) items (i + 1) b
alone o items i b none start = rw (none, start none) (IsFirstBest-none (ranks_by o (λ k. k)) items)

-- the best of the first i items is kept or replaced by the next; where there are none yet, it is the first
module _ {K : Type 0} {cmp : K → K → Ordering} (o : IsTotalOrder cmp) (items : List K) (i b : ℕ) (x y : K) (start : i ≡ 0 → b ≡ 0) (best : 0 < i → IsFirstBest (λ v w. is_lt (cmp v w)) items i b) (within : i < length items) (at_i : x ≡ get_or items i x) (at_b : y ≡ get_or items b y) where
  pub takes : is_lt (cmp x y) ≡ true → IsFirstBest (λ v w. is_lt (cmp v w)) items (i + 1) i
  takes less = elim (cases_eq i 0) [
    | inl none ↦ subst (λ k. IsFirstBest (λ v w. is_lt (cmp v w)) items (k + 1) k) (sym none) (IsFirstBest-none (ranks_by o (λ k. k)) items)
    | inr some ↦ IsFirstBest-takes (ranks_by o (λ k. k)) items i b x y (best (omega arith)) within at_i at_b less
  ]

  pub keeps : is_lt (cmp x y) ≡ false → IsFirstBest (λ v w. is_lt (cmp v w)) items (i + 1) b
  keeps more = elim (cases_eq i 0) [
    | inl none ↦ alone o items i b none start
    | inr some ↦ IsFirstBest-keeps (ranks_by o (λ k. k)) items i b x y (best (omega arith)) within at_i at_b more
  ]

not_before : {K : Type 0} (cmp : K → K → Ordering) (items : List K) (i j : ℕ) → FirstLeast cmp items i → FirstLeast cmp items j → i < j → ⊥
not_before cmp [] i j is so lt = absurd (omega (arith, is.within))
not_before cmp (x ∷ xs) i j is so lt = true≢false (sym (ap is_lt (so.before i x lt)) ∙ is.after j x lt so.within)

-- only one place is that of the least, the first among equals
pub one_least : {K : Type 0} (cmp : K → K → Ordering) (items : List K) (i j : ℕ) → FirstLeast cmp items i → FirstLeast cmp items j → i ≡ j
one_least cmp items i j is so =
    elim (cases_order i j) [
      | inl same ↦ same
      | inr other ↦ elim other [ inl lt ↦ absurd (not_before cmp items i j is so lt) | inr gt ↦ absurd (not_before cmp items j i so is gt) ]
    ]
