-- What the laws of a supply say further: more ticks serve no less, and no more is served than there are ticks.
use Rattle.std.proofs.Common.{◌≡◌, ℕ, zero, suc, ◌≤◌, add-one, ap, inl, inr, arith}
use Rattle.std.proofs.lemmas.Bool.{cases_eq}
use Rattle.engine.specs.Supply.{Lawful}

module _ (s : ℕ → ℕ) (cycle quota : ℕ) (law : Lawful s cycle quota) where
  pub more_serve : (m n : ℕ) → m ≤ n → s m ≤ s n
  more_serve m zero l = let e : m ≡ 0 = omega arith in omega (arith, ap s e)
  more_serve m (suc n) l = elim (cases_eq m (suc n)) [
    | inl e ↦ omega (arith, ap s e)
    | inr ne ↦ let step : s n ≤ s (suc n) = omega (arith, law.grows n, ap s (add-one n)) in omega (arith, more_serve m n (omega arith))
  ]

  pub within_ticks : (n : ℕ) → s n ≤ n
  within_ticks zero = omega (arith, law.none)
  within_ticks (suc n) = let rec = within_ticks n in omega (arith, law.by_one n, ap s (add-one n))
