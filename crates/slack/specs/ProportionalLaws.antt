-- The proportional rule keeps the laws.
use Rattle.std.specs.Prelude.{◌≡◌, ℕ, ◌+◌, ◌-◌, ◌*◌, ◌/◌, ◌<◌, ◌≤◌}
use Rattle.std.proofs.Common.{ap, ◌∙◌, mul-add, add-mul, mul_comm, mul_assoc, mul_right_comm, mul-le-mul_left, mul-le-mul_right, le_of_mul-le-mul_right, div-mul-le_self, arith}
use Rattle.std.proofs.Math.Nat.{div-le_of_le-mul}
use Rattle.std.proofs.lemmas.Nat.{le-div}
use Rattle.std.proofs.lemmas.Bool.{cond-true, cond-false}
use Rattle.slack.specs.declared.rule.Position.{Position}
use Rattle.slack.specs.Rule.{Bounds, Lawful, bounded}
use Rattle.slack.specs.Proportional.{proportional}
use Rattle.slack.specs.Tested.{tested_if_bounds, untested_if_outside}

-- the share of a sub-task inside the bounds
abbrev share : Position → ℕ
share p = p.deadline * p.head / (p.head + p.tail)

is_share : (p : Position) → Bounds p → proportional p ≡ share p
is_share p b = cond-true (bounded p) (share p) p.deadline (tested_if_bounds p b)

-- the work up to a sub-task fits into its share, and the share into the deadline
head_fits : (D h t : ℕ) → 1 ≤ h → h + t ≤ D → h ≤ D * h / (h + t)
head_fits D h t one fits =
    let pos : 0 < h + t = omega arith in
    let less = mul-le-mul_left h fits in
    le-div h (D * h) (h + t) pos (omega (arith, mul_comm D h))

share_fits : (D h t : ℕ) → D * h / (h + t) ≤ D
share_fits D h t =
    let short : h ≤ h + t = omega arith in
    let less = mul-le-mul_left D short in
    div-le_of_le-mul (h + t) (omega (arith, mul_comm D (h + t)))

-- A path of A ticks goes through u, whose head is h, and one of B ticks through v, whose head is h + c + x.
-- Where q is no more than the share of u, q + c is no more than the share of v.
apart : (D h c x A B q : ℕ) → 1 ≤ A → q * A ≤ D * h → B ≤ D → B ≤ A + x → h ≤ A → (q + c) * B ≤ D * (h + c + x)
apart D h c x A B q one below long wide short =
    let share_u = mul-le-mul_right B below in
    let gap = mul-le-mul_left (c * A) long in
    let wider = mul-le-mul_left h wide in
    let shorter = mul-le-mul_right x short in
    let heads : h * B + c * A ≤ (h + c + x) * A = omega (arith, mul-add h A x, add-mul (h + c) x A, add-mul h c A, mul_comm A x) in
    let shares = mul-le-mul_left D heads in
    let parts : (q + c) * A * B ≡ q * A * B + c * A * B = ap (λ z. z * B) (add-mul q c A) ∙ add-mul (q * A) (c * A) B in
    let left = mul_right_comm (q + c) B A in
    let right = mul_assoc D (h + c + x) A in
    let both : (q + c) * B * A ≤ D * (h + c + x) * A = omega (arith, mul-add D (h * B) (c * A), mul_assoc D h B, mul_comm D (c * A)) in
    le_of_mul-le-mul_right both one

-- c ticks of work between two sub-tasks stand between their shares
shares_apart : (D hu tu hv tv c : ℕ) → 1 ≤ hu → hv + tv ≤ D → hu + c ≤ hv → tv + c ≤ tu
    → D * hu / (hu + tu) + c ≤ D * hv / (hv + tv)
shares_apart D hu tu hv tv c one long heads tails =
    let x : ℕ = hv - (hu + c) in
    let is : hu + c + x ≡ hv = omega arith in
    let pos : 1 ≤ hu + tu = omega arith in
    let wide : hv + tv ≤ hu + tu + x = omega arith in
    let short : hu ≤ hu + tu = omega arith in
    let fits = apart D hu c x (hu + tu) (hv + tv) (D * hu / (hu + tu)) pos (div-mul-le_self (D * hu) (hu + tu)) long wide short in
    let pos' : 0 < hv + tv = omega arith in
    le-div (D * hu / (hu + tu) + c) (D * hv) (hv + tv) pos' (omega (arith, fits, ap (λ z. D * z) is))

pub proportional_lawful : Lawful proportional
proportional_lawful = record {
  outside = λ p out. cond-false (bounded p) (share p) p.deadline (untested_if_outside p out);
  inside = λ p b.
      let e = is_share p b in
      let fits : p.head + p.tail ≤ p.deadline = omega arith in
      let low = head_fits p.deadline p.head p.tail b.worked fits in
      let high = share_fits p.deadline p.head p.tail in
      (omega arith, omega arith);
  spaced = λ u v bu bv D G m c one heads tails levels.
      let eu = is_share u bu in
      let ev = is_share v bv in
      let fits : v.head + v.tail ≤ v.deadline = omega arith in
      let gap = shares_apart v.deadline u.head u.tail v.head v.tail c bu.worked fits heads tails in
      omega (arith, eu, ev, ap (λ d. d * u.head / (u.head + u.tail)) D);
}
