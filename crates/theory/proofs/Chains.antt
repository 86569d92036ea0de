-- What arrivals a period apart ask: m arrivals, of which the first has y left.
use Rattle.std.proofs.Common.{◌≡◌, ℕ, zero, suc, ◌+◌, ◌-◌, ◌*◌, ◌≤◌, refl, ap, arith}
use Rattle.theory.specs.Pattern.{Pattern, WellFormed}
use Rattle.theory.specs.Demand.{sum_to, best}
use Rattle.theory.proofs.Greatest.{sum_same}
use Rattle.theory.proofs.Windows.{best_mono, best_short}

abbrev pub chain : Pattern → ℕ → ℕ → ℕ
chain pat zero y = 0
chain pat (suc m) y = best pat 0 y + chain pat m (y - pat.period)

pub sum_chain : (pat : Pattern) (m y : ℕ) → sum_to (λ k. best pat 0 (y - k * pat.period)) m ≡ chain pat m (y - pat.period)
sum_chain pat zero y = refl
sum_chain pat (suc m) y =
    let rec = sum_chain pat m (y - pat.period) in
    let shift = sum_same (λ k. best pat 0 (y - suc k * pat.period)) (λ k. best pat 0 (y - pat.period - k * pat.period)) (λ k. ap (best pat 0) (omega arith)) m in
    let one : y - 1 * pat.period ≡ y - pat.period = omega arith in
    omega (arith, ap (best pat 0) one)

module _ (pat : Pattern) (ok : WellFormed pat) where
  pub chain_mono : (m y z : ℕ) → y ≤ z → chain pat m y ≤ chain pat m z
  chain_mono zero y z l = omega arith
  chain_mono (suc m) y z l =
      let rec = chain_mono m (y - pat.period) (z - pat.period) (omega arith) in
      omega (arith, best_mono pat ok 0 0 y z (omega arith) l)

  pub chain_none : (m y : ℕ) → y ≡ 0 → chain pat m y ≡ 0
  chain_none zero y e = refl
  chain_none (suc m) y e =
      let rec = chain_none m (y - pat.period) (omega arith) in
      omega (arith, best_short pat ok 0 y (omega arith))

  -- as many arrivals as there are ticks left suffice
  pub chain_le : (m n y : ℕ) → y ≤ n → chain pat m y ≤ chain pat n y
  chain_le zero n y l = omega arith
  chain_le (suc m) zero y l = omega (arith, chain_none (suc m) y (omega arith))
  chain_le (suc m) (suc n) y l =
      let t = ok.some_time in
      let p = ok.within_period in
      let rec = chain_le m n (y - pat.period) (omega arith) in
      omega arith

  pub chain_same : (m n y : ℕ) → y ≤ m → y ≤ n → chain pat m y ≡ chain pat n y
  chain_same m n y a b = omega (arith, chain_le m n y b, chain_le n m y a)
