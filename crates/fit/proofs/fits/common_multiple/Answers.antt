use Rattle.std.proofs.Common.{◌≡◌, ◌+◌, List, ◌∷◌, ◌++◌, [], take, Bor, sym, subst, ap, ◌∙◌, arith}
use Rattle.std.proofs.lemmas.List.{length-map, take_all, take_more}
use Rattle.claim.specs.declared.claim.Claim.{Claim}
use Rattle.fit.proofs.Multiples.{SharedBy, least_multiple, result_few, result_some, shared_next}
use Rattle.fit.proofs.Spending.{at_place, shown, there}
use Rattle.fit.proofs.fits.common_multiple.Goals as goal

pub loop-claim-preserved : goal.loop-claim-preserved
loop-claim-preserved c =
    let bs = c.args.claims.now in
    let i = c.loop-claim.claim-index in
    let b = c.claim-item.result in
    let more = take_more (shown bs) i b.now (there bs i b c.loop-claim-test.true c.claim-item.is) in
    let next : take (i + 1) (shown bs) ≡ take i (shown bs) ++ b.now ∷ [] = more ∙ ap (λ (x : Claim). take i (shown bs) ++ x ∷ []) (at_place bs i b c.loop-claim-test.true c.claim-item.is) in
    subst (λ (cs : List Claim). SharedBy cs c.greatest_divisor-shared.result) (sym next)
    (shared_next (take i (shown bs)) b.now c.loop-claim.shared c.greatest_divisor-shared.result c.loop-claim.invariant c.greatest_divisor-shared.ensures)

pub returns : goal.returns
returns c =
    let bs = c.args.claims.now in
    let g = c.loop-claim.shared in
    let whole : take c.loop-claim.claim-index (shown bs) ≡ shown bs = take_all c.loop-claim.claim-index (shown bs) (omega (arith, length-map bs (λ (x : Bor Claim). x.now), c.loop-claim-test.false)) in
    let by = subst (λ (cs : List Claim). SharedBy cs g) whole c.loop-claim.invariant in
    record { some = result_some (shown bs) g by; few = result_few (shown bs) g by; least = least_multiple (shown bs) g by }
