use Rattle.std.proofs.Common.{rules, tests, sym, ap, ◌∙◌}
use Rattle.std.proofs.lemmas.Iterator.{YieldsList-from_slice}
use Rattle.std.proofs.lemmas.Iterator.Search.{any_from_yields_List}
use Rattle.rehearsal.specs.Report.{is_next, ran_by}
use Rattle.rehearsal.proofs.report.has_run.Goals as goal

pub returns-in-Ticked : goal.returns-in-Ticked
returns-in-Ticked c =
    let test = is_next c.args.number c.args.node in
    any_from_yields_List test _ _ _ c.any.ensures.ran (YieldsList-from_slice c.in-Ticked.ran c.iter.ensures.rest) (λ x b q k. search (rules, tests))
    ∙ sym (ap (ran_by c.args.number c.args.node) c.in-Ticked.is)
