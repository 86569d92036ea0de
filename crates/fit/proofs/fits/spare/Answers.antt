use Rattle.std.proofs.Common.{◌≡◌, ◌≤◌, sym, subst, ◌∙◌, arith}
use Rattle.claim.specs.Asking.{given}
use Rattle.fit.specs.Fits.{Kept}
use Rattle.fit.proofs.Keeping.{claim_at, kept_set, level_at}
use Rattle.fit.proofs.Spending.{next_within, shown, with_next}
use Rattle.fit.proofs.fits.spare.Goals as goal
use Rattle.fit.proofs.fits.spare.Goals.{then-place-kept, else-place-kept}

pub asked-asked-requires : goal.asked-asked-requires
asked-asked-requires c =
    level_at c.args.claims.now c.loop-place.place c.index-claims-place.result c.loop-place-test.true c.index-claims-place.is c.loop-place.kept _ c.loop-place.invariant.kept c.if-place-kept.true

pub returns-in_err-left-clause-spare : goal.returns-in_err-left-clause-spare
returns-in_err-left-clause-spare c =
    let more = next_within c.args.claims.now c.loop-place.place c.index-claims-place.result c.loop-place-test.true c.index-claims-place.is c.args.ticks in
    let asked : c.if-place-kept.asked ≡ given c.index-claims-place.result.now c.args.ticks = elim c.if-place-kept.branch [
      | then-place-kept w ↦ w.asked-is ∙ w.asked-asked.ensures.asked
      | else-place-kept w ↦ w.asked-is ∙ w.demand-asked.ensures.given
    ] in
    let short : c.if-place-kept.asked ≤ c.loop-place.left → ⊥ = c.in_err-left.ensures in
    rw c.from_residual.ensures (λ within. short (omega (arith, asked, c.loop-place.invariant.spent)))

pub returns-in_err-left-clause-kept : goal.returns-in_err-left-clause-kept
returns-in_err-left-clause-kept c =
    let bs = c.args.claims.now in
    let i = c.loop-place.place in
    let b = c.index-claims-place.result in
    let at = claim_at bs i b c.loop-place-test.true c.index-claims-place.is in
    elim c.if-place-kept.branch [
      | then-place-kept w ↦ subst (Kept (shown bs)) (sym w.kept-is) (kept_set (shown bs) c.loop-place.kept i b.now _ c.loop-place.invariant.kept at w.asked-asked.ensures.kept)
      | else-place-kept w ↦ subst (Kept (shown bs)) (sym w.kept-is) c.loop-place.invariant.kept
    ]

pub loop-place-preserved : goal.loop-place-preserved
loop-place-preserved c =
    let bs = c.args.claims.now in
    let i = c.loop-place.place in
    let b = c.index-claims-place.result in
    let at = claim_at bs i b c.loop-place-test.true c.index-claims-place.is in
    let more = with_next bs i b c.loop-place-test.true c.index-claims-place.is c.args.ticks in
    elim c.if-place-kept.branch [
      | then-place-kept w ↦ record {
        spent = omega (arith, w.asked-is, w.asked-asked.ensures.asked, c.loop-place.invariant.spent, c.in_ok-left.ensures);
        kept = subst (Kept (shown bs)) (sym w.kept-is) (kept_set (shown bs) c.loop-place.kept i b.now _ c.loop-place.invariant.kept at w.asked-asked.ensures.kept);
      }
      | else-place-kept w ↦ record {
        spent = omega (arith, w.asked-is, w.demand-asked.ensures.given, c.loop-place.invariant.spent, c.in_ok-left.ensures);
        kept = subst (Kept (shown bs)) (sym w.kept-is) c.loop-place.invariant.kept;
      }
    ]
