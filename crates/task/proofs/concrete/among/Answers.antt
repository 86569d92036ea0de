use Rattle.std.proofs.Common.{◌≡◌, ℕ, false, ◌&&◌, Bool, List, [], get_or, ap, rules}
use Rattle.few.proofs.Filled.{filled}
use Rattle.task.specs.Tables.{leads}
use Rattle.task.proofs.Places.{none_past, rows_of}
use Rattle.task.proofs.concrete.among.Goals as goal

pub returns : goal.returns
returns c =
    let edges = c.args.edges.now in
    let members = c.args.members.now in
    let made = c.from_fn.ensures.items in
    rows_of c.from_fn.result (λ u v. leads edges u v && get_or members u false) made.long
    (λ v below. filled made (λ w (row : List Bool). (u : ℕ) → get_or row u false ≡ (leads edges u w && get_or members u false)) (λ w row f short k. search rules) v [] below)
    (λ u v past. ap (λ x. x && get_or members u false) (none_past edges c.told-edges u v past))
