use Rattle.std.proofs.Common.{rules, refl, ◌≡◌, ℕ, ◌<◌, ◌≤◌, length, inl, inr, arith}
use Rattle.std.specs.Prelude.{slice_index, slice_index_or}
use Rattle.std.proofs.lemmas.Bool.{cases_lt}
use Rattle.few.proofs.Filled.{filled}
use Rattle.claim.specs.Making.{most_within}
use Rattle.claim.proofs.Stairs.{most_up}
use Rattle.plan.specs.Part.{tasks_in}
use Rattle.claim.proofs.making.cut.Goals as goal

pub invariant_of-result : goal.invariant_of-result
invariant_of-result c =
    let ts = tasks_in c.args.part.now in
    let rows = c.args.rows.now in
    let es = c.args.ends.now in
    let u = c.args.«from» in
    let P : ℕ → ℕ → Type 0 = λ i y. (i < length es → (y ≡ most_within ts rows u (slice_index es i)) × (y ≤ 345600)) × (length es ≤ i → y ≡ 4294967295) in
    let each : (i d : ℕ) → i < 24 → P i (slice_index_or c.from_fn.result i d) =
    filled c.from_fn.ensures.items P (λ j y f' short k. ((λ low. (search rules, search rules), λ past. search rules), search rules)) in
    let long = c.from_fn.ensures.items.long in
    record {
      placed = omega (arith, long);
      rising = λ i j d low high.
          let here = each i d (omega (arith, long)) in
          let there = each j d (omega (arith, long)) in
          elim (cases_lt j (length es)) [
            | inl inside ↦
                let up = most_up ts rows u (slice_index es i) (slice_index es j) (c.requires.rising i j 0 low inside) in
                omega (arith, (here.0 (omega arith)).0, (there.0 inside).0)
            | inr past ↦ elim (cases_lt i (length es)) [
              | inl inside ↦ omega (arith, (here.0 inside).1, there.1 past)
              | inr both ↦ omega (arith, here.1 both, there.1 past)
            ]
          ];
    }

pub returns : goal.returns
returns c =
    let ts = tasks_in c.args.part.now in
    let rows = c.args.rows.now in
    let es = c.args.ends.now in
    let u = c.args.«from» in
    let P : ℕ → ℕ → Type 0 = λ i y. i < length es → y ≡ most_within ts rows u (slice_index es i) in
    record {
      its_moment = refl;
      beside = λ i below. filled c.from_fn.ensures.items P (λ j y f' short k. (λ low. search rules, search rules)) i 0 (omega arith) below;
    }
