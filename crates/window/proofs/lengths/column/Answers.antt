use Rattle.std.proofs.Common.{false, sym, rules}
use Rattle.few.proofs.Filled.{filled_with}
use Rattle.task.specs.Tables.{leads}
use Rattle.task.proofs.Places.{none_past}
use Rattle.window.proofs.lengths.column.Goals as goal

pub returns : goal.returns
returns c w =
    let edges = c.args.edges.now in
    filled_with c.from_fn.ensures.items (λ i. leads edges c.args.v i) (λ i y f short k. search rules) w false (λ past. sym (none_past edges c.told-edges c.args.v w past))
