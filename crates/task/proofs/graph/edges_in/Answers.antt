use Rattle.std.proofs.Common.{◌≡◌, ℕ, Bool, false, length, get_or, take, filter, refl, sym, ap, ◌∙◌, arith, rules}
use borrow.Author.Tests.{tests}
use Rattle.std.specs.List.{count_by}
use Rattle.std.proofs.lemmas.Iterator.{YieldsList-from_slice, YieldsList-from_take}
use Rattle.std.proofs.lemmas.Iterator.Consumers.{YieldsList-at, YieldsList-from_filter, count_from_yields_List}
use Rattle.std.proofs.lemmas.List.{get_or_past, take_all}
use Rattle.std.proofs.lemmas.List.Sums.{length-filter}
use Rattle.task.specs.Graph.{at, count_below}
use Rattle.task.specs.Node.{after, missing}
use Rattle.task.proofs.Counts.{counted}
use Rattle.task.proofs.graph.edges_in.Goals as goal

none_below : (n : ℕ) → 0 ≡ count_below (λ u. get_or (after missing) u false) n
none_below n = ap (λ ys. count_by (λ (edge : Bool). edge) ys) (sym (take_all n (after missing) (omega arith))) ∙ counted (λ (edge : Bool). edge) false refl (after missing) n

pub returns : goal.returns
returns c =
    let v = c.args.v in
    let edges = c.after.result.now in
    let taken = YieldsList-from_take v (YieldsList-at c.take.ensures.source (YieldsList-from_slice edges (search rules))) c.take.ensures.count in
    let is : c.count.result ≡ length (filter (λ (edge : Bool). edge) (take v edges)) =
    count_from_yields_List _ c.count.result c.count.ensures.ran
    (YieldsList-from_filter _ (λ (edge : Bool). edge) (YieldsList-at c.filter.ensures.source taken) c.filter.ensures.closure (λ x b q k. search (rules, tests))) in
    let same : edges ≡ after (at c.args.nodes.now v) = search rules in
    is ∙ length-filter (λ (edge : Bool). edge) (take v edges) ∙ counted (λ (edge : Bool). edge) false refl edges v ∙ ap (λ us. count_below (λ u. get_or us u false) v) same

pub returns-in_default : goal.returns-in_default
returns-in_default c =
    let past : at c.args.nodes.now c.args.v ≡ missing = search (rules, get_or_past) in
    none_below c.args.v ∙ ap (λ n. count_below (λ u. get_or (after n) u false) c.args.v) (sym past)
