use Rattle.std.proofs.Common.{◌≡◌, ℕ, ◌+◌, ◌-◌, min, get_or, set, sym, ap, ◌∙◌, subst, inl, inr, arith}
use Rattle.std.proofs.lemmas.Bool.{cases_eq}
use Rattle.std.proofs.lemmas.List.{get_or-set_other, get_or-set_same, length-set}
use Rattle.claim.specs.Asking.{given}
use Rattle.claim.proofs.Steadying.{steady}
use Rattle.fit.proofs.demands.go_on.Goals as goal

pub loop-ticks-preserved : goal.loop-ticks-preserved
loop-ticks-preserved c =
    let k = c.args.claim.now in
    let most = c.loop-ticks.most in
    let t = c.loop-ticks.ticks in
    let x = c.saturating_add.result in
    let inv = c.loop-ticks.invariant in
    let before = t - k.period in
    let far = c.requires.far (omega (arith, c.loop-ticks-test.true, c.loop-ticks.auto.ticks)) in
    let again : before + k.period ≡ t = omega (arith, c.loop-ticks.auto.ticks) in
    let more : given k t ≡ given k before + k.whole = ap (given k) (sym again) ∙ steady k before (omega (arith, c.loop-ticks.auto.ticks)) in
    let here : x ≡ min (given k t) 65535 = omega (arith, c.saturating_add.ensures, c.held-whole.ensures, inv.asked before (omega (arith, k.some)) (omega (arith, c.loop-ticks-test.true))) in
    record {
      long = length-set most t x ∙ inv.long;
      asked = λ n below few. elim (cases_eq n t) [
        | inl e ↦ subst (λ (j : ℕ). get_or (set most t x) j 0 ≡ min (given k j) 65535) (sym e) (get_or-set_same most t x 0 (omega (arith, inv.long, c.loop-ticks-test.true)) ∙ here)
        | inr ne ↦ get_or-set_other most t n x 0 ne ∙ inv.asked n (omega arith) few
      ];
    }
