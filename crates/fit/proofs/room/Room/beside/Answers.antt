use Rattle.std.proofs.Common.{rules, ◌≡◌, ℕ, ◌+◌, min, take, ap, subst, List, arith}
use Rattle.std.proofs.lemmas.List.{length-map, take_all}
use Rattle.claim.specs.declared.claim.Claim.{Claim}
use Rattle.claim.specs.Asking.{given}
use Rattle.few.proofs.Filled.{filled}
use Rattle.fit.specs.Room.{Leaves}
use Rattle.fit.proofs.Serving.{within_ticks}
use Rattle.fit.proofs.Spending.{shown, with_next}
use Rattle.fit.proofs.room.Room.beside.Goals as goal

pub loop-claim-init : goal.loop-claim-init
loop-claim-init g c =
    let s = g.P.Supply.supply c.args.platform.now c.args.engine in
    λ n few.
    let here = filled c.from_fn.ensures.items (λ i (y : ℕ). y ≡ s (min i 28800) + 1) (λ i y f' short q. (search rules, search rules)) n 0 (omega arith) in
    let same : min n 28800 ≡ n = omega arith in
    omega (arith, here, ap s same)

pub loop-claim-preserved : goal.loop-claim-preserved
loop-claim-preserved g c =
    let bs = c.args.claims.now in
    let i = c.loop-claim.claim-index in
    let b = c.claim-item.result in
    λ n few.
    let asked = ap (λ (k : Claim). given k n) c.of.ensures in
    omega (
      arith,
      c.take.ensures n few,
      c.loop-claim.invariant n few,
      c.of.result.tabled n few,
      asked,
      with_next bs i b c.loop-claim-test.true c.claim-item.is n,
      within_ticks (g.P.Supply.supply c.args.platform.now c.args.engine) _ _ (g.P.Supply.laws c.args.platform.now c.args.engine) n,
    )

pub returns : goal.returns
returns g c =
    let s = g.P.Supply.supply c.args.platform.now c.args.engine in
    let bs = c.args.claims.now in
    let whole : take c.loop-claim.claim-index (shown bs) ≡ shown bs = take_all c.loop-claim.claim-index (shown bs) (omega (arith, length-map bs (λ b. b.now), c.loop-claim-test.false)) in
    subst (λ (cs : List Claim). Leaves s cs c.loop-claim.room) whole c.loop-claim.invariant
