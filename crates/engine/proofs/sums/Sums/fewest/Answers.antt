use Rattle.std.proofs.Common.{rules, ◌∙◌}
use Rattle.std.proofs.iter.runs.Sources.{ranges}
use Rattle.engine.specs.Marks.{marked}
use Rattle.engine.proofs.Summing.{fewest_of}
use Rattle.engine.proofs.sums.Sums.fewest.Goals as goal

pub returns : goal.returns
returns c =
    let sums = c.args.self.now in
    c.unwrap_or.ensures ∙ fewest_of (marked sums.round.marks) c.args.n c.len.result sums.table c.min.result sums.round.some c.len.ensures (search (rules, ranges)) (search (rules, ranges))
