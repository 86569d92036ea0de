use Rattle.std.proofs.Common.{◌≡◌, ℕ, ◌-◌, ◌*◌, ◌<◌, ◌≤◌, length, sym, ap, ◌∙◌, mul_comm, arith, rules}
use Rattle.task.specs.Picks.{product, ways}
use Rattle.task.proofs.Products.{product_step, product_small}
use Rattle.task.proofs.job.Job.numbers.Goals as goal

product_turn : (f : ℕ → ℕ) (len u was way : ℕ) → 0 < u → u ≤ len → was ≡ product f u (len - u) → way ≡ f (u - 1) → was * way ≡ product f (u - 1) (len - (u - 1))
product_turn f len u was way some inside is w =
    ap (λ k. k * way) is ∙ ap (λ k. product f u (len - u) * k) w ∙ mul_comm (product f u (len - u)) (f (u - 1)) ∙ sym (product_step f len u some inside)

pub loop-u-preserved : goal.loop-u-preserved
loop-u-preserved c =
    let ns = c.graph-nodes.result.now in
    product_turn (ways c.args.numbering ns) (length ns) c.loop-u.u _ _ c.loop-u-test.true c.loop-u.auto.u c.loop-u.invariant c.ways-total.ensures

pub overflow_mul-total : goal.overflow_mul-total
overflow_mul-total c =
    let ns = c.graph-nodes.result.now in
    let sound = c.graph-nodes.ensures.sound in
    let u = c.loop-u.u in
    let small : c.loop-u.total * c.ways-total.result ≤ 81 =
    omega (
      arith,
      product_turn (ways c.args.numbering ns) (length ns) u _ _ c.loop-u-test.true c.loop-u.auto.u c.loop-u.invariant c.ways-total.ensures,
      product_small c.args.numbering ns sound.forked sound.few_forked (u - 1) (omega arith),
    ) in
    search rules

pub overflow_cast-result : goal.overflow_cast-result
overflow_cast-result c =
    let ns = c.graph-nodes.result.now in
    let sound = c.graph-nodes.ensures.sound in
    let small : c.loop-u.total ≤ 81 = omega (arith, c.loop-u.invariant, product_small c.args.numbering ns sound.forked sound.few_forked c.loop-u.u c.loop-u.auto.u) in
    search rules
