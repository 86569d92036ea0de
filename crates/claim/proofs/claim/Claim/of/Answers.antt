use Rattle.std.proofs.Common.{rules, refl, ◌≡◌, ◌≤◌, length, map, slice_index, sym, arith}
use Rattle.std.specs.List.Sorted.{IsPermutation}
use Rattle.few.specs.Few.{items}
use Rattle.claim.specs.Making.{CutOf, CutsOf, most_within}
use Rattle.claim.proofs.Cutting.{claims_made, ends_within}
use Rattle.claim.proofs.Stairs.{end_of, most_up}
use Rattle.plan.specs.Part.{part_of, tasks_in}
use Rattle.plan.specs.Plan.{reached_rows}
use Rattle.plan.proofs.Formed.{part_fits, part_formed}
use Rattle.claim.proofs.claim.Claim.of.Goals as goal

pub invariant_of-result-clause-covered : goal.invariant_of-result-clause-covered
invariant_of-result-clause-covered c = λ i below.
    let p = c.args.plan.now in
    let g = c.args.tag in
    let d = p.job.deadline in
    let rows = c.as_slice-rows.result.now in
    let ts = tasks_in c.part-part.result in
    let is : ts ≡ part_of p g = c.part-part.ensures in
    let es = items c.ends-ends.result in
    let first : CutOf ts rows es 0 c.cut-arrival.result = search rules in
    let low = ends_within d (part_of p g) es (part_fits p g) (rw (sym is) c.ends-ends.ensures.same) i 0 below in
    omega (arith, first.beside i below, most_up ts rows 0 (slice_index es i) d low, c.most_within.ensures.most)

pub returns : goal.returns
returns c =
    let p = c.args.plan.now in
    let g = c.args.tag in
    let rows = c.as_slice-rows.result.now in
    let some : 1 ≤ length (part_of p g) = search rules in
    let ts : tasks_in c.part-part.result ≡ part_of p g = c.part-part.ensures in
    let rs : rows ≡ reached_rows p = search rules in
    let es = items c.ends-ends.result in
    let whole : c.most_within.result ≡ most_within (part_of p g) (reached_rows p) 0 p.job.deadline = rw (sym ts, sym rs) c.most_within.ensures.most in
    let ends : IsPermutation (map end_of (part_of p g)) es = rw (sym ts) c.ends-ends.ensures.same in
    let first : CutOf (tasks_in c.part-part.result) rows es 0 c.cut-arrival.result = search rules in
    let others : CutsOf (tasks_in c.part-part.result) rows es (items c.cuts.result) = search rules in
    let arrival : CutOf (part_of p g) (reached_rows p) es 0 c.cut-arrival.result = rw (sym ts, sym rs) first in
    let cuts : CutsOf (part_of p g) (reached_rows p) es (items c.cuts.result) = rw (sym ts, sym rs) others in
    (some, claims_made p (part_of p g) (part_formed p g) (part_fits p g) _ ends refl refl whole arrival cuts)
