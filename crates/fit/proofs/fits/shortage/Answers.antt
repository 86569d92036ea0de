use Rattle.std.proofs.Common.{◌≡◌, false, ◌-◌, ◌≤◌, map, min, refl, sym, inl, inr, ap, Bor, arith}
use Rattle.std.proofs.lemmas.Bool.{both_ways, cases_lt}
use Rattle.claim.specs.declared.claim.Claim.{Claim}
use Rattle.fit.specs.Fits.{Short, given_of_all}
use Rattle.fit.proofs.Keeping.{kept_none}
use Rattle.fit.proofs.Pacing.{paced}
use Rattle.fit.proofs.Stating.{given_in_all}
use Rattle.fit.proofs.Walking.{least_within, settled, skips}
use Rattle.fit.proofs.fits.shortage.Goals as goal

pub returns-then-is_short-clause-fits : goal.returns-then-is_short-clause-fits
returns-then-is_short-clause-fits g c =
    let cs = map (λ (b : Bor Claim). b.now) c.args.claims.now in
    let n = min c.args.near 28800 in
    let short : Short (g.P.Supply.supply c.args.platform.now c.args.engine) cs n = c.is_short.ensures.0 c.if-is_short.true in
    λ ps st. (λ y. absurd (both_ways false refl (sym y)), λ fit. absurd (omega (arith, short, given_in_all ps cs st n, fit n)))

pub returns-in_default-clause-fits : goal.returns-in_default-clause-fits
returns-in_default-clause-fits g c =
    let s = g.P.Supply.supply c.args.platform.now c.args.engine in
    let t = c.loop.ticks in
    let cs = map (λ (b : Bor Claim). b.now) c.args.claims.now in
    let more : given_of_all cs t ≤ c.from-served.result → ⊥ = c.in_default.ensures.spare in
    let far : min t 28800 ≡ t = omega (arith, c.loop.invariant.within) in
    λ ps st. (λ y. absurd (both_ways false refl (sym y)), λ fit. absurd (more (omega (arith, given_in_all ps cs st t, fit t, c.supply.ensures, c.from-served.ensures, ap s far))))

pub spare-requires : goal.spare-requires
spare-requires g c = c.loop.invariant.kept

pub loop-init : goal.loop-init
loop-init g c = record {
  within = omega arith;
  passed = λ ps st n low high. absurd (omega arith);
  kept = kept_none (map (λ (b : Bor Claim). b.now) c.args.claims.now) 129;
}

pub loop-preserved : goal.loop-preserved
loop-preserved g c =
    let p = c.args.platform.now in
    let e = c.args.engine in
    let s = g.P.Supply.supply p e in
    let t = c.loop.ticks in
    let cs = map (λ (b : Bor Claim). b.now) c.args.claims.now in
    let inv = c.loop.invariant in
    let m = c.least_for.result in
    let far : min t 28800 ≡ t = omega (arith, inv.within) in
    record {
      within = omega (arith, least_within s (c.from-served.result - c.in-Some.spare) m t c.least_for.ensures (omega (arith, c.supply.ensures, c.from-served.ensures, ap s far)), c.saturating_sub-ticks.ensures, inv.within);
      passed = λ ps st n low high. elim (cases_lt t n) [
        | inl beyond ↦ inv.passed ps st n beyond high
        | inr here ↦ skips s _ _ (g.P.Supply.laws p e) ps cs st t (c.from-served.result - c.in-Some.spare) m (omega (arith, c.in-Some.ensures.spare)) c.least_for.ensures n (omega (arith, c.saturating_sub-ticks.ensures)) here
      ];
      kept = c.in-Some.ensures.kept;
    }

pub returns-then-ticks-eq0-clause-fits : goal.returns-then-ticks-eq0-clause-fits
returns-then-ticks-eq0-clause-fits g c =
    let p = c.args.platform.now in
    let e = c.args.engine in
    let cs = map (λ (b : Bor Claim). b.now) c.args.claims.now in
    λ ps st. (λ _. settled (g.P.Supply.supply p e) _ _ (g.P.Supply.laws p e) ps cs st c.common_multiple-farthest.result c.common_multiple-farthest.ensures.some c.common_multiple-farthest.ensures.least (λ n some few. c.loop.invariant.passed ps st n (omega arith) few), λ _. refl)

pub returns-then-ticks-eq0-clause-paced : goal.returns-then-ticks-eq0-clause-paced
returns-then-ticks-eq0-clause-paced g c =
    let p = c.args.platform.now in
    let e = c.args.engine in
    let s = g.P.Supply.supply p e in
    let cs = map (λ (b : Bor Claim). b.now) c.args.claims.now in
    λ ps st _. paced s _ _ (g.P.Supply.laws p e) ps cs st (settled s _ _ (g.P.Supply.laws p e) ps cs st c.common_multiple-farthest.result c.common_multiple-farthest.ensures.some c.common_multiple-farthest.ensures.least (λ n some few. c.loop.invariant.passed ps st n (omega arith) few))
