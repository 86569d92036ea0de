use Rattle.std.proofs.Common.{◌≡◌, length, true, false, rules}
use borrow.Author.Tests.{tests}
use Rattle.std.proofs.lemmas.Iterator.{first_from_Range}
use Rattle.few.proofs.Below.{first_below}
use Rattle.task.specs.Nodes.{fork_fits}
use Rattle.task.proofs.sound.first_wrong_fork.Goals as goal

pub returns : goal.returns
returns c =
    let ns = c.args.nodes.now in
    let found = first_from_Range _ _ _ _ (λ v. fork_fits ns v ≡ false) (λ v. fork_fits ns v ≡ true) c.find.ensures.ran (λ x q k. search (rules, tests)) (λ x q k. search (rules, tests)) in
    first_below c.find.result (λ v. fork_fits ns v ≡ true) (λ v. fork_fits ns v ≡ false) (length ns) found
