use Rattle.std.proofs.Common.{◌≡◌, cond, get_or, sym, ap, ◌∙◌}
use Rattle.std.proofs.lemmas.Bool.{eq-eqb, ne_eqb}
use Rattle.dispatch.specs.Opening.{replaced}
use Rattle.dispatch.proofs.Sweep.{sweep_on}
use Rattle.dispatch.proofs.opening.replace.Goals as goal
use Rattle.dispatch.proofs.opening.replace.Goals.{then-slot-fresh, else-slot-fresh}

pub loop-slot-preserved : goal.loop-slot-preserved
loop-slot-preserved c =
    let f = c.args.fresh.now in
    let xs = c.args.slots.now in
    let ys = c.loop-slot.slots in
    let i = c.loop-slot.slot-index in
    let x = c.slot-item.result in
    let y = get_or ys i x in
    elim c.if-slot-fresh.branch [
      | then-slot-fresh w ↦
          let e : f ≡ replaced f y = sym (ap (λ b. cond b f y) (eq-eqb y.job f.job w.if-slot-fresh.true)) in
          w.slots-is ∙ sweep_on (replaced f) xs ys i c.loop-slot.invariant c.loop-slot-test.true x f e
      | else-slot-fresh w ↦
          let e : y ≡ replaced f y = sym (ap (λ b. cond b f y) (ne_eqb y.job f.job w.if-slot-fresh.false)) in
          w.slots-is ∙ sweep_on (replaced f) xs ys i c.loop-slot.invariant c.loop-slot-test.true x y e
    ]
