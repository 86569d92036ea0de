use Rattle.std.proofs.Common.{◌≡◌, ℕ, ◌<◌, ◌≤◌, false, cond, length, get_or, inl, inr, arith, rules}
use Rattle.std.proofs.lemmas.Bool.{cases_lt}
use Rattle.std.proofs.lemmas.List.{get_or_past}
use Rattle.few.proofs.Filled.{filled}
use Rattle.task.specs.Graph.{at}
use Rattle.window.specs.Path.{weigh}
use Rattle.window.proofs.layout.Measure.weights.Goals as goal

pub returns : goal.returns
returns c =
    let ns = c.args.nodes.now in
    let made = c.from_fn.ensures.items in
    let Weighs : ℕ → ℕ → Type 0 = λ i y. (i < length ns → y ≡ cond (get_or c.args.members.now i false) (weigh c.args.self (at ns i)) 0) × (length ns ≤ i → y ≡ 0) in
    let at-v : (v : ℕ) → v < 24 → Weighs v (get_or c.from_fn.result v 0) = λ v short. filled made Weighs (λ i y f below k. search rules) v 0 short in (
      λ v below. (at-v v (omega (arith, c.requires.few))).0 below,
      λ v past. elim (cases_lt v 24) [ inl short ↦ (at-v v short).1 past | inr long ↦ get_or_past c.from_fn.result v 0 (omega (arith, made.long)) ],
    )
