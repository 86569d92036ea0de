use Rattle.std.proofs.Common.{◌≡◌, ℕ, suc, ◌-◌, ◌/◌, ◌%◌, ◌<◌, ◌≤◌, List, length, get_or, set, sym, ap, ◌∙◌, inl, inr, mul_comm, arith}
use native.Mathlib.Nat.{div-div-eq-div-mul}
use Rattle.std.proofs.lemmas.List.{length-set, get_or-set_same, get_or-set_other}
use Rattle.std.proofs.lemmas.Bool.{cases_eq}
use Rattle.task.specs.Picks.{product, ways, pick}
use Rattle.task.proofs.Products.{product_step}
use Rattle.task.proofs.job.Job.ranks.Goals as goal

-- what is left of the number k when the ways from u on are divided out, and the digit at u
rest_turn : (f : ℕ → ℕ) (k len u was way : ℕ) → 0 < u → u ≤ len → was ≡ k / product f u (len - u) → way ≡ f (u - 1) → was / way ≡ k / product f (u - 1) (len - (u - 1))
rest_turn f k len u was way some inside is w =
    ap (λ r. r / way) is ∙ ap (λ v. k / product f u (len - u) / v) w ∙ div-div-eq-div-mul k (product f u (len - u)) (f (u - 1))
    ∙ ap (λ p. k / p) (mul_comm (product f u (len - u)) (f (u - 1)) ∙ sym (product_step f len u some inside))

digit_turn : (f : ℕ → ℕ) (k len u was way : ℕ) → 0 < u → was ≡ k / product f u (len - u) → way ≡ f (u - 1) → was % way ≡ (k / product f (suc (u - 1)) (len - suc (u - 1))) % f (u - 1)
digit_turn f k len u was way some is w =
    let e : u ≡ suc (u - 1) = omega arith in
    ap (λ r. r % way) (is ∙ ap (λ v. k / product f v (len - v)) e) ∙ ap (λ v. (k / product f (suc (u - 1)) (len - suc (u - 1))) % v) w

places_turn : (pick : ℕ → ℕ) (was : List ℕ) (len u x : ℕ) → 0 < u → u ≤ length was → ((w : ℕ) → u ≤ w → w < len → get_or was w 0 ≡ pick w) → x ≡ pick (u - 1)
    → (w : ℕ) → u - 1 ≤ w → w < len → get_or (set was (u - 1) x) w 0 ≡ pick w
places_turn pick was len u x some room kept is w from in' = elim (cases_eq w (u - 1)) [
  | inl e ↦ ap (λ v. get_or (set was (u - 1) x) v 0) e ∙ get_or-set_same was (u - 1) x 0 (omega arith) ∙ is ∙ ap pick (sym e)
  | inr ne ↦ get_or-set_other was (u - 1) w x 0 ne ∙ kept w (omega arith) in'
]

pub loop-u-preserved : goal.loop-u-preserved
loop-u-preserved c =
    let m = c.args.numbering in
    let ns = c.graph-nodes.result.now in
    let k = c.args.number in
    let u = c.loop-u.u in
    let inv = c.loop-u.invariant in (
      length-set c.loop-u.ranks (u - 1) (c.loop-u.rest % c.ways-ways.result) ∙ inv.0,
      rest_turn (ways m ns) k (length ns) u _ _ c.loop-u-test.true c.loop-u.auto.u inv.1 c.ways-ways.ensures,
      places_turn (pick m ns k) c.loop-u.ranks (length ns) u _ c.loop-u-test.true (omega (arith, c.loop-u.auto.u, c.graph-nodes.ensures.sound.few, inv.0)) inv.2
          (digit_turn (ways m ns) k (length ns) u _ _ c.loop-u-test.true inv.1 c.ways-ways.ensures),
    )
