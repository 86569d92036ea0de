-- What the least of some values is.
use Rattle.std.specs.Prelude.{◌≡◌, ℕ, zero, suc, ◌+◌, ◌≤◌, min, refl}
use Rattle.std.proofs.Common.{ap, inl, inr, add-one, arith}
use Rattle.std.proofs.lemmas.Bool.{cases_eq, cases_lt}
use Rattle.cyclic.specs.Least.{least}

pub least_none : (f : ℕ → ℕ) → least f 0 ≡ f 0
unfolding least
least_none f = refl

pub least_more : (f : ℕ → ℕ) (m : ℕ) → least f (m + 1) ≡ min (least f m) (f (m + 1))
unfolding least
least_more f m = rw (add-one m)

pub least_at : (f : ℕ → ℕ) (m i : ℕ) → i ≤ m → least f m ≤ f i
unfolding least
least_at f zero i low = let e : i ≡ 0 = omega arith in omega (arith, ap f e)
least_at f (suc m) i low = elim (cases_eq i (suc m)) [
  | inl e ↦ omega (arith, ap f e)
  | inr ne ↦ let rec = least_at f m i (omega arith) in omega arith
]

pub least_found : (f : ℕ → ℕ) (m : ℕ) → (i : ℕ) × (i ≤ m) × (f i ≡ least f m)
unfolding least
least_found f zero = (0, omega arith, refl)
least_found f (suc m) =
    let (i, low, is) = least_found f m in
    elim (cases_lt (least f m) (f (suc m))) [
      | inl less ↦ (i, omega arith, omega arith)
      | inr more ↦ (suc m, omega arith, omega arith)
    ]
