use Rattle.std.proofs.Common.{rules, ◌≡◌, ◌+◌, ◌*◌, ℕ, max, ap, subst, ◌∙◌, sym, arith}
use Rattle.few.specs.Few.{items}
use Rattle.claim.specs.declared.asking.Reach.{Reach}
use Rattle.claim.specs.Asking.{Begins, step}
use Rattle.claim.proofs.Passing.{LastDue, WholeDue, begins}
use Rattle.claim.proofs.claim.Claim.last_due.Goals as goal
use Rattle.claim.proofs.claim.Claim.last_due.Goals.{in-0, in_default, in-0-step, in_default-step}

pub returns : goal.returns
returns c =
    let me = c.args.self.now in
    let r = c.args.reach in
    let period = c.from-period.ensures in
    let whole : WholeDue me r c.match-reach.whole = elim c.match-reach.branch [
      | in-0 w ↦ record { none = λ _. search rules; some = λ more. omega arith }
      | in_default w ↦ record { none = λ none. omega arith; some = λ more. omega (arith, ap (λ (t : ℕ). r.wholes * t) period) }
    ] in
    let ended-last : c.step-2.result ≡ step (items me.ends) r.last = c.step-2.ensures ∙ ap (λ xs. step xs r.last) c.as_slice-2.ensures.items in
    let last : LastDue me r c.match-step.last = elim c.match-step.branch [
      | in-0-step w ↦ record { none = λ _. search rules; some = λ more. omega arith }
      | in_default-step w ↦ record { none = λ none. omega arith; some = λ more. omega (arith, ap (λ (t : ℕ). (r.wholes + 1) * t) period) }
    ] in
    let first : c.from-first.result ≡ step (items me.ends) r.first = c.from-first.ensures ∙ c.step.ensures ∙ ap (λ xs. step xs r.first) c.as_slice.ensures.items in
    let most : c.max-2.result ≡ max (max c.from-first.result c.match-reach.whole) c.match-step.last = omega (arith, c.max.ensures, c.max-2.ensures) in
    λ y is. subst (Begins me y) (sym most)
    (begins me y _ _ _ (first ∙ ap (λ (x : Reach). step (items me.ends) x.first) is) (subst (λ (x : Reach). WholeDue me x c.match-reach.whole) is whole) (subst (λ (x : Reach). LastDue me x c.match-step.last) is last))
