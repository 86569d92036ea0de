use Rattle.std.proofs.Common.{rules, ◌≡◌, ℕ, ◌≤◌, length, arith}
use Rattle.few.proofs.Filled.{filled}
use Rattle.cyclic.specs.Fewest.{fewest}
use Rattle.engine.specs.Marks.{marked}
use Rattle.engine.proofs.sums.Sums.least.Goals as goal

pub returns : goal.returns
returns c =
    let marks = marked c.args.self.now.round.marks in
    λ n low. filled c.from_fn.ensures.items (λ i (y : ℕ). i ≤ length marks → y ≡ fewest marks i) (λ i y f' short k. search rules) n 0 (omega (arith, c.args.self.now.round.short)) low
