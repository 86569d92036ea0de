use Rattle.std.proofs.Common.{map, ap, ◌∙◌}
use Rattle.board.specs.Residents.{jobs}
use Rattle.dispatch.specs.Table.{numbered}
use Rattle.few.specs.Few.{items}
use Rattle.resident.specs.Resident.{number_of}
use Rattle.runs.specs.Events.{start}
use Rattle.seated.specs.Jobs.{jobs_of}
use Rattle.running.specs.Numbers.{numbers_in}
use Rattle.running.specs.View.{of_jobs}
use Rattle.running.proofs.Jobs.{start_numbers, start_same}
use Rattle.running.proofs.running.Running.start.Goals as goal

pub invariant_of-result : goal.invariant_of-result
invariant_of-result g c =
    let rs = jobs c.args.board.residents in
    let ns = c.numbers.ensures ∙ ap (map number_of) c.residents.ensures.jobs in
    record { numbered = ap numbers_in c.start-table.ensures ∙ (start_numbers (items c.numbers.result) ∙ ns) }

pub returns-clause-begins : goal.returns-clause-begins
returns-clause-begins g c =
    let rs = jobs c.args.board.residents in
    let ns = c.numbers.ensures ∙ ap (map number_of) c.residents.ensures.jobs in
    ap (of_jobs (jobs_of rs)) (c.start-table.ensures ∙ ap (λ l. start (map numbered l)) ns) ∙ start_same rs
