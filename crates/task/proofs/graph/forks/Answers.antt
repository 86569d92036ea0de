use Rattle.std.proofs.Common.{◌≡◌, ◌∙◌, rules}
use Rattle.std.specs.List.{count_by}
use Rattle.task.specs.Node.{covers, missing}
use Rattle.task.proofs.Counts.{counted_all}
use Rattle.task.proofs.Places.{missing_uncovered}
use Rattle.task.proofs.graph.forks.Goals as goal

pub returns : goal.returns
returns c =
    let m = c.args.numbering in
    let is : c.count.result ≡ count_by (covers m) c.args.nodes.now = search rules in
    is ∙ counted_all (covers m) missing (missing_uncovered m) c.args.nodes.now
