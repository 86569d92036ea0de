use Rattle.std.proofs.Common.{rules, ◌≡◌, ◌+◌, List, [], ◌∷◌, ◌++◌, length, get_or, take, sym, ap, subst, ◌∙◌, arith}
use Rattle.std.proofs.lemmas.List.{take_all, take_more}
use Rattle.few.specs.Few.{items}
use Rattle.claim.specs.declared.claim.Cut.{Cut}
use Rattle.claim.specs.Asking.{given_at, reach_of}
use Rattle.claim.proofs.Climbing.{Highest, highest_all, highest_first, highest_next, highest_skip}
use Rattle.claim.proofs.Reaching.{due_is}
use Rattle.claim.proofs.claim.Claim.plateau.Goals as goal
use Rattle.claim.proofs.claim.Claim.plateau.Goals.{then-plateau-due, else-plateau-due}

pub plateau_at-requires-clause-is : goal.plateau_at-requires-clause-is
plateau_at-requires-clause-is c = c.reach-reach-in-loop-cut.ensures.is ∙ ap (reach_of c.args.self.now) (omega (arith, c.from-in-loop-cut.ensures, c.from-in-loop-cut-2.ensures))

pub loop-cut-init : goal.loop-cut-init
loop-cut-init c =
    let at = c.plateau_at-plateau.ensures in
    highest_first c.args.self.now c.args.ticks c.plateau_at-plateau.result (record { here = at.here; within = at.within; level = at.level })

pub loop-cut-preserved : goal.loop-cut-preserved
loop-cut-preserved c =
    let me = c.args.self.now in
    let n = c.args.ticks in
    let k = c.cut-item.result in
    let xs = c.deref-cut-items.result.now in
    let i = c.loop-cut.cut-index in
    let same : xs ≡ items me.cuts = search rules in
    let next : take (i + 1) xs ≡ take i xs ++ k ∷ [] = take_more xs i k c.loop-cut-test.true ∙ ap (λ (x : Cut). take i xs ++ x ∷ []) (sym c.cut-item.is) in
    let y : c.from-in-loop-cut.result + c.from-in-loop-cut-2.result ≡ k.«from» + n = omega (arith, c.from-in-loop-cut.ensures, c.from-in-loop-cut-2.ensures) in
    let due : given_at me n k ≡ c.due.result = sym (c.due.ensures ∙ due_is me k (k.«from» + n) c.reach-reach-in-loop-cut.result (c.reach-reach-in-loop-cut.ensures.is ∙ ap (reach_of me) y)) in
    let all : Highest me n (take i xs ++ k ∷ []) c.if-plateau-due.plateau = elim c.if-plateau-due.branch [
      | then-plateau-due w ↦
          let at = w.plateau_at.ensures in
          let more = highest_next me n (take i xs) i k w.plateau_at.result c.loop-cut.plateau (omega (arith, ap length same, c.loop-cut-test.true)) (c.cut-item.is ∙ ap (λ ys. get_or ys i k) same)
          (record { here = at.here; within = at.within; level = at.level }) c.loop-cut.invariant in
          subst (Highest me n (take i xs ++ k ∷ [])) (sym (w.plateau-is ∙ w.or_higher-plateau.ensures)) more
      | else-plateau-due w ↦
          subst (Highest me n (take i xs ++ k ∷ [])) (sym w.plateau-is) (highest_skip me n (take i xs) k c.loop-cut.plateau (omega (arith, w.if-plateau-due.false)) c.loop-cut.invariant)
    ] in
    subst (λ (ks : List Cut). Highest me n ks c.if-plateau-due.plateau) (sym next) all

pub returns-clause-level : goal.returns-clause-level
returns-clause-level c =
    let me = c.args.self.now in
    let xs = c.deref-cut-items.result.now in
    let same : xs ≡ items me.cuts = search rules in
    let whole : take c.loop-cut.cut-index xs ≡ items me.cuts = take_all c.loop-cut.cut-index xs (omega (arith, c.loop-cut-test.false)) ∙ same in
    highest_all me c.args.ticks c.loop-cut.plateau (subst (λ (ks : List Cut). Highest me c.args.ticks ks c.loop-cut.plateau) whole c.loop-cut.invariant)
