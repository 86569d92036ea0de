use Rattle.std.proofs.Common.{false, ◌&&◌, get_or, sym, ap, arith, rules}
use Rattle.std.proofs.lemmas.List.{get_or_past}
use Rattle.few.proofs.Filled.{filled_with}
use Rattle.task.specs.Picks.{keeps}
use Rattle.task.proofs.picks.Picks.row.Goals as goal

pub returns : goal.returns
returns c u =
    let self = c.args.self.now in
    let edges = c.args.edges.now in
    filled_with c.from_fn.ensures.items (λ i. get_or edges i false && keeps self.numbering self.nodes.now self.number i c.args.v) (λ i y f short k. search rules) u false
    (λ past. sym (ap (λ x. x && keeps self.numbering self.nodes.now self.number u c.args.v) (get_or_past edges u false (omega (arith, c.told-edges)))))
