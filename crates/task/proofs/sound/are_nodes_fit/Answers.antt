use Rattle.std.proofs.Common.{◌≡◌, ℕ, true, subst, rules}
use borrow.Author.Tests.{tests}
use Rattle.std.proofs.lemmas.Iterator.{YieldsList-from_slice, cases_from_all}
use Rattle.std.proofs.lemmas.Iterator.Consumers.{YieldsList-at, YieldsList-from_enumerate}
use Rattle.std.proofs.lemmas.List.{get_or_default}
use Rattle.few.proofs.Below.{all_placed}
use Rattle.task.specs.declared.node.Node.{Node}
use Rattle.task.specs.Node.{after, missing}
use Rattle.task.specs.Nodes.{Below}
use Rattle.task.specs.Ranges.{numbers_fit}
use Rattle.task.proofs.Places.{edge_inside}
use Rattle.task.proofs.sound.are_nodes_fit.Goals as goal

pub returns : goal.returns
returns c =
    let ns = c.args.nodes.now in
    let Fit : ℕ × Node → Type 0 = λ p. (numbers_fit p.1 ≡ true) × Below p.0 (after p.1) in
    let tested = cases_from_all _ _ c.all.result Fit (λ p. Fit p → ⊥) c.all.ensures.ran
    (YieldsList-from_enumerate (YieldsList-at c.enumerate.ensures.source (YieldsList-from_slice ns (search rules))) c.enumerate.ensures.count) (λ x q k. search (rules, tests)) (λ x q k. search (rules, tests)) in
    let each = all_placed c.all.result Fit ns tested in (
      λ y. (λ v inside. (each.0 y v missing inside).0, λ u v is. (each.0 y v missing (edge_inside ns u v is)).1 u is),
      λ p. each.1 (λ v d inside. subst (λ (n : Node). Fit (v, n)) (get_or_default ns v missing d inside) (p.0 v inside, λ u is. p.1 u v is)),
    )
