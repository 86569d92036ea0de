use Rattle.std.proofs.Common.{false, ◌&&◌, get_or, sym, ap, arith, rules}
use Rattle.std.proofs.lemmas.List.{get_or_past}
use Rattle.few.proofs.Filled.{filled_with}
use Rattle.task.proofs.concrete.both.Goals as goal

pub returns : goal.returns
returns c u =
    let a = c.args.a.now in
    let b = c.args.b.now in
    filled_with c.from_fn.ensures.items (λ i. get_or a i false && get_or b i false) (λ i y f short k. search rules) u false
    (λ past. sym (ap (λ x. x && get_or b u false) (get_or_past a u false (omega (arith, c.told-a)))))
