-- In more ticks no less falls due.
use Rattle.std.proofs.Common.{◌≡◌, ℕ, zero, suc, ◌+◌, ◌-◌, ◌*◌, ◌<◌, ◌≤◌, List, length, ap, inl, inr, arith}
use Rattle.std.specs.List.Sorted.{IsNonDecreasing}
use Rattle.std.proofs.lemmas.Bool.{cases_lt}
use Rattle.few.specs.Few.{items}
use Rattle.claim.specs.declared.claim.Claim.{Claim}
use Rattle.claim.specs.declared.claim.Cut.{Cut}
use Rattle.claim.specs.Asking.{ended, given, given_at, given_later, step, whole_ones}
use Rattle.claim.specs.Claim.{by_end}
use Rattle.claim.proofs.Passing.{div_up, ended_up, few_ended}
use Rattle.claim.proofs.Reaching.{by_step, few_ends}
use Rattle.claim.proofs.Stairs.{greatest_up}

step_up : (ms : List ℕ) (i j : ℕ) → IsNonDecreasing ms → i ≤ j → j ≤ length ms → step ms i ≤ step ms j
step_up ms zero j up less few = omega arith
step_up ms (suc i) zero up less few = absurd (omega arith)
step_up ms (suc i) (suc j) up less few = up i j 0 (omega arith) (omega arith)

module _ (c : Claim) where
  ended_few : (k : Cut) (y : ℕ) → ended (items c.ends) y ≤ length k.most
  ended_few k y = omega (arith, few_ended (items c.ends) y, few_ends c, k.placed)

  end_up : (k : Cut) (y z : ℕ) → y ≤ z → by_end c k y ≤ by_end c k z
  end_up k y z up = omega (arith, by_step c k y, by_step c k z, step_up k.most _ _ k.rising (ended_up (items c.ends) y z up) (ended_few k z))

  within_whole : (q : ℕ) → q ≤ length (items c.ends) → step c.arrival.most q ≤ c.whole
  within_whole zero few = omega arith
  within_whole (suc i) few = c.covered i (omega arith)

  end_low : (y : ℕ) → by_end c c.arrival y ≤ c.whole
  end_low y = omega (arith, by_step c c.arrival y, within_whole (ended (items c.ends) y) (few_ended (items c.ends) y))

  next_whole : (v w a : ℕ) → v < w → a ≤ c.whole → v * c.whole + a ≤ w * c.whole
  next_whole v w a less low = grind arith

  later_up : (y z : ℕ) → y ≤ z → given_later c y ≤ given_later c z
  later_up y z up =
      let v = whole_ones c y in
      let w = whole_ones c z in
      let few = div_up (y - c.deadline) (z - c.deadline) c.period c.some (omega arith) in
      elim (cases_lt v w) [
        | inl more ↦ omega (arith, next_whole v w _ more (end_low (y - (v + 1) * c.period)))
        | inr same' ↦
            let same : w ≡ v = omega arith in
            omega (arith, ap (λ (x : ℕ). x * c.whole + by_end c c.arrival (z - (x + 1) * c.period)) same, end_up c.arrival (y - (v + 1) * c.period) (z - (v + 1) * c.period) (omega arith))
      ]

  at_up : (m n : ℕ) → m ≤ n → (k : Cut) → given_at c m k ≤ given_at c n k
  at_up m n up k = omega (arith, end_up k (k.«from» + m) (k.«from» + n) (omega arith), later_up (k.«from» + m) (k.«from» + n) (omega arith))

  pub given_up : (m n : ℕ) → m ≤ n → given c m ≤ given c n
  given_up m n up = omega (arith, at_up m n up c.arrival, greatest_up (given_at c m) (given_at c n) (at_up m n up) (items c.cuts))
