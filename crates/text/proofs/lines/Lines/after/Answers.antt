use Rattle.std.proofs.Common.{subst}
use Rattle.text.specs.declared.key.Key.TheVariants.{After}
use Rattle.text.specs.declared.key.Sort as sorts
use Rattle.text.specs.Value.{Means}
use Rattle.text.proofs.Commas.{listed_places}
use Rattle.text.proofs.Dues.{due_took, due_missed}
use Rattle.text.proofs.Gathering.{gathers_far, gathers_lower}
use Rattle.text.proofs.lines.Lines.after.Goals as goal

pub returns-in-List : goal.returns-in-List
returns-in-List c =
    let due = c.in_ok-line.ensures in
    let is = subst (Means sorts.TheVariants.List due.bytes) c.in-List.is due.means in
    let low = gathers_lower c.args.node c.in-List.numbers due.bytes c.requires c.if-numbers-node.true is.1 in
    (due_took (After c.args.node) _ _ _ _ due low.0 (listed_places c.args.node c.in-List.numbers.places c.requires low.1), low.1)

pub returns-in-Number : goal.returns-in-Number
returns-in-Number c =
    let due = c.in_ok-line.ensures in
    let is = subst (Means sorts.TheVariants.List due.bytes) c.in-List.is due.means in
    due_missed (After c.args.node) _ _ _ due is.1.form (gathers_far c.args.node c.in-List.numbers due.bytes c.if-numbers-node.false is.1)
