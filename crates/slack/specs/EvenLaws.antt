-- The even rule keeps the laws.
use Rattle.std.specs.Prelude.{◌≡◌, ℕ, ◌+◌, ◌-◌, ◌*◌, ◌/◌, ◌<◌, ◌≤◌, cond, ◌==◌, ◌≢◌}
use Rattle.std.proofs.Common.{◌∙◌, inl, inr, mul_comm, mul-le-mul_left, div-mul-le_self, arith}
use Rattle.std.proofs.Math.Nat.{div-le_of_le-mul}
use Rattle.std.proofs.lemmas.Nat.{le-div}
use Rattle.std.proofs.lemmas.Bool.{cond-true, cond-false, eq-eqb, ne_eqb, cases_eq}
use Rattle.slack.specs.declared.rule.Position.{Position}
use Rattle.slack.specs.Rule.{Bounds, Lawful, bounded}
use Rattle.slack.specs.Even.{even}
use Rattle.slack.specs.Tested.{tested_if_bounds, untested_if_outside}

-- the part of a free ticks at level l of m
abbrev part : ℕ → ℕ → ℕ → ℕ
part a l m = a * l / m

-- what the rule gives inside the bounds, and there to a sub-task that others come after
abbrev before : Position → ℕ
before p = p.head + part (p.deadline - p.span) p.level p.depth

abbrev within : Position → ℕ
within p = cond (p.tail == 0) p.deadline (before p)

is_within : (p : Position) → Bounds p → even p ≡ within p
is_within p b = cond-true (bounded p) (within p) p.deadline (tested_if_bounds p b)

is_last : (p : Position) → Bounds p → p.tail ≡ 0 → even p ≡ p.deadline
is_last p b e = is_within p b ∙ cond-true (p.tail == 0) p.deadline (before p) (eq-eqb p.tail 0 e)

is_before : (p : Position) → Bounds p → (p.tail ≢ 0) → even p ≡ before p
is_before p b ne = is_within p b ∙ cond-false (p.tail == 0) p.deadline (before p) (ne_eqb p.tail 0 ne)

-- a part is no more than the whole, and no less at a higher level
part_fits : (a l m : ℕ) → l ≤ m → part a l m ≤ a
part_fits a l m h = let less = mul-le-mul_left a h in div-le_of_le-mul m (omega (arith, mul_comm a m))

part_grows : (a l k m : ℕ) → 1 ≤ m → l ≤ k → part a l m ≤ part a k m
part_grows a l k m one h =
    let less = mul-le-mul_left a h in
    let down = div-mul-le_self (a * l) m in
    le-div (a * l / m) (a * k) m one (omega arith)

part_of : (p : Position) → Bounds p → part (p.deadline - p.span) p.level p.depth ≤ p.deadline - p.span
part_of p b = part_fits (p.deadline - p.span) p.level p.depth b.reached

parts_grow : (u v : Position) → Bounds v → u.deadline ≡ v.deadline → u.span ≡ v.span → u.depth ≡ v.depth → u.level < v.level
    → part (u.deadline - u.span) u.level u.depth ≤ part (v.deadline - v.span) v.level v.depth
parts_grow u v b D G m levels =
    let up : u.level ≤ v.level = omega arith in
    let one : 1 ≤ v.depth = omega arith in
    let grows = part_grows (v.deadline - v.span) u.level v.level v.depth one up in
    rw (D, G, m) grows

pub even_lawful : Lawful even
even_lawful = record {
  outside = λ p out. cond-false (bounded p) (within p) p.deadline (untested_if_outside p out);
  inside = λ p b.
      let fits = part_of p b in
      elim (cases_eq p.tail 0) [
        | inl e ↦ let is = is_last p b e in (omega arith, omega arith)
        | inr ne ↦ let is = is_before p b ne in (omega arith, omega arith)
      ];
  spaced = λ u v bu bv D G m c one heads tails levels.
      let open_end : u.tail ≡ 0 → ⊥ = λ e. omega arith in
      let eu = is_before u bu open_end in
      elim (cases_eq v.tail 0) [
        | inl e ↦ let ev = is_last v bv e in let fits = part_of u bu in omega arith
        | inr ne ↦ let ev = is_before v bv ne in let grows = parts_grow u v bv D G m levels in omega arith
      ];
}
