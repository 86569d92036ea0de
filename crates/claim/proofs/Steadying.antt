-- Once all that an arrival asks has fallen due, a period more asks for one whole arrival more.
use Rattle.std.proofs.Common.{◌≡◌, ℕ, ◌+◌, ◌-◌, ◌*◌, ◌/◌, ◌≤◌, max, List, [], ◌∷◌, length, refl, sym, ap, ◌∙◌, arith}
use Rattle.std.proofs.Math.Nat.{add-div_right}
use Rattle.few.specs.Few.{items}
use Rattle.claim.specs.declared.claim.Claim.{Claim}
use Rattle.claim.specs.declared.claim.Cut.{Cut}
use Rattle.claim.specs.Asking.{Steady, all_due, ended, given_at, given_later, step, whole_ones}
use Rattle.claim.specs.Claim.{by_end}
use Rattle.claim.proofs.Reaching.{by_step, ended_cons, one_ended}
use Rattle.theory.specs.Demand.{greatest}

all_ended : (es : List ℕ) (y : ℕ) → greatest (λ e. e) es ≤ y → ended es y ≡ length es
all_ended [] y all = refl
all_ended (e ∷ es) y all =
    let rec = all_ended es y (omega arith) in
    omega (arith, ended_cons e es y, one_ended e y 1 (omega arith))

greatest_shift : {X : Type 0} (f g : X → ℕ) (w a : ℕ) → ((x : X) → g x ≡ f x + w) → (xs : List X) → max (a + w) (greatest g xs) ≡ max a (greatest f xs) + w
greatest_shift f g w a more [] = omega arith
greatest_shift f g w a more (x ∷ xs) = let rec = greatest_shift f g w a more xs in omega (arith, more x)

module _ (c : Claim) where
  by_end_same : (k : Cut) (y z : ℕ) → all_due c ≤ y → all_due c ≤ z → by_end c k y ≡ by_end c k z
  by_end_same k y z low high =
      by_step c k y ∙ ap (step k.most) (all_ended (items c.ends) y (omega arith) ∙ sym (all_ended (items c.ends) z (omega arith))) ∙ sym (by_step c k z)

  whole_more : (y : ℕ) → c.deadline ≤ y → whole_ones c (y + c.period) ≡ whole_ones c y + 1
  whole_more y low =
      let past : y + c.period - c.deadline ≡ y - c.deadline + c.period = omega arith in
      ap (λ (n : ℕ). n / c.period) past ∙ add-div_right (y - c.deadline) c.some

  later_more : (y : ℕ) → c.deadline ≤ y → given_later c (y + c.period) ≡ given_later c y + c.whole
  later_more y low =
      let w = whole_ones c y in
      let more = whole_more y low in
      let rest : y + c.period - (w + 1 + 1) * c.period ≡ y - (w + 1) * c.period = omega arith in
      let last : y + c.period - (whole_ones c (y + c.period) + 1) * c.period ≡ y - (w + 1) * c.period = ap (λ (q : ℕ). y + c.period - (q + 1) * c.period) more ∙ rest in
      omega (arith, ap (λ (q : ℕ). q * c.whole) more, ap (by_end c c.arrival) last)

  at_more : (n : ℕ) → all_due c ≤ n → (k : Cut) → given_at c (n + c.period) k ≡ given_at c n k + c.whole
  at_more n low k =
      let y = k.«from» + n in
      let far : k.«from» + (n + c.period) ≡ y + c.period = omega arith in
      omega (arith, ap (by_end c k) far, ap (given_later c) far, by_end_same k (y + c.period) y (omega arith) (omega arith), later_more y (omega arith))

  pub steady : Steady c (all_due c)
  steady n low =
      let first = at_more n low c.arrival in
      let others = greatest_shift (given_at c n) (given_at c (n + c.period)) c.whole (given_at c n c.arrival) (at_more n low) (items c.cuts) in
      omega arith
