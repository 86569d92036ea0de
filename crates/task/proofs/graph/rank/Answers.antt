use Rattle.std.proofs.Common.{◌≡◌, ℕ, Bool, false, List, get_or, take, filter, length, refl, ap, ◌∙◌, rules}
use borrow.Author.Tests.{tests}
use Rattle.std.proofs.lemmas.Iterator.{YieldsList-from_slice}
use Rattle.std.proofs.lemmas.Iterator.Consumers.{YieldsList-at, YieldsList-from_filter, count_from_yields_List}
use Rattle.std.proofs.lemmas.List.{take_min}
use Rattle.std.proofs.lemmas.List.Sums.{length-filter}
use Rattle.task.specs.declared.node.Node.{Node}
use Rattle.task.specs.Node.{after, missing}
use Rattle.task.proofs.Counts.{counted}
use Rattle.task.proofs.graph.rank.Goals as goal

pub returns : goal.returns
returns c =
    let nodes = c.args.nodes.now in
    let v = c.args.v in
    let p : Node → Bool = λ n. get_or (after n) c.args.u false in
    let front : List Node = take c.min.result nodes in
    let same : front ≡ take v nodes = ap (λ (k : ℕ). take k nodes) (search rules) ∙ take_min v nodes in
    let is : c.count.result ≡ length (filter p front) =
    count_from_yields_List _ c.count.result c.count.ensures.ran
    (YieldsList-from_filter _ p (YieldsList-at c.filter.ensures.source (YieldsList-from_slice front (search rules))) c.filter.ensures.closure (λ x b q k. search (rules, tests))) in
    is ∙ ap (λ ns. length (filter p ns)) same ∙ length-filter p (take v nodes) ∙ counted p missing refl nodes v
