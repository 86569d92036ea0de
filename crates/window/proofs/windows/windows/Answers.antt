use Rattle.std.proofs.Common.{◌≡◌, ℕ, cond, get_or, sym, ap, ◌∙◌, inl, inr, arith, rules}
use Rattle.std.proofs.lemmas.Bool.{cases_lt}
use Rattle.std.proofs.lemmas.List.{get_or_past}
use Rattle.few.proofs.Filled.{filled}
use Rattle.task.specs.Graph.{at}
use Rattle.task.specs.Node.{is_sub_task}
use Rattle.window.specs.declared.layout.Window.{Window}
use Rattle.window.specs.Windows.{closed, position}
use Rattle.window.proofs.Laying.{laid_on, laid_past, laid_all, laid_same}
use Rattle.window.proofs.windows.windows.Goals as goal
use Rattle.window.proofs.windows.windows.Goals.{then-concrete-v, else-concrete-v}

pub loop-v-preserved : goal.loop-v-preserved
loop-v-preserved g c =
    let L : ℕ → ℕ = λ u. g.R.SlackRule.local c.args.rule.now (position c.args.deadline c.args.lengths.now u) in
    elim c.if-concrete-v.branch [
      | then-concrete-v w ↦
          laid_on c.args.nodes.now c.args.concrete.now L c.requires.1.0 c.loop-v.opens c.loop-v.ends c.loop-v.v (omega (arith, c.loop-v-test.true, c.requires.0)) c.loop-v.invariant
          c.if-concrete-v.opens c.if-concrete-v.ends _ _ w.if-concrete-v.true w.greatest-offset.ensures
          (w.due.ensures ∙ ap (λ p. cond (is_sub_task (at c.args.nodes.now c.loop-v.v)) (g.R.SlackRule.local c.args.rule.now p) w.greatest-offset.result) w.position.ensures)
          w.opens-is w.ends-is
      | else-concrete-v w ↦
          laid_past c.args.nodes.now c.args.concrete.now L c.requires.1.0 c.loop-v.opens c.loop-v.ends c.loop-v.v (omega (arith, c.loop-v-test.true, c.requires.0)) c.loop-v.invariant
          c.if-concrete-v.opens c.if-concrete-v.ends w.if-concrete-v.false w.opens-is w.ends-is
    ]

pub returns : goal.returns
returns g c =
    let ns = c.args.nodes.now in
    let L : ℕ → ℕ = λ u. g.R.SlackRule.local c.args.rule.now (position c.args.deadline c.args.lengths.now u) in
    let os = c.loop-v.opens in
    let ls = c.loop-v.ends in
    let laid = laid_all ns c.args.concrete.now L os ls c.loop-v.v c.loop-v-test.false c.requires.1.1 c.loop-v.invariant in
    let made = c.from_fn.ensures.items in
    let Same : ℕ → Window → Type 0 = λ i y. (y.offset ≡ get_or os i 0) × (y.deadline ≡ get_or ls i 0) in
    let same : (v : ℕ) → Same v (get_or c.from_fn.result v closed) = λ v. elim (cases_lt v 24) [
      | inl short ↦ filled made Same (λ i y f below k. search rules) v closed short
      | inr long ↦
          let none = get_or_past c.from_fn.result v closed (omega (arith, made.long)) in (
            ap (λ (y : Window). y.offset) none ∙ sym (get_or_past os v 0 (omega (arith, c.loop-v.invariant.0))),
            ap (λ (y : Window). y.deadline) none ∙ sym (get_or_past ls v 0 (omega (arith, c.loop-v.invariant.1))),
          )
    ] in
    λ v. laid_same ns c.args.concrete.now L _ _ _ _ (λ u. (same u).0) (λ u. (same u).1) v (laid v)
