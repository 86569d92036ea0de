use Rattle.std.proofs.Common.{◌≡◌, true, length, nat_lt, cond, None, sym, ap, ◌∙◌, arith}
use Rattle.std.specs.Option.{option_map}
use Rattle.std.proofs.lemmas.Bool.Decides.{nat_tests}
use Rattle.board.specs.Residents.{jobs}
use Rattle.dispatch.specs.Candidate.{named}
use Rattle.dispatch.specs.Table.{state_of}
use Rattle.runs.specs.Next.{next}
use Rattle.seated.specs.Jobs.{jobs_of}
use Rattle.running.specs.Ticking.{next_in}
use Rattle.running.specs.View.{view}
use Rattle.running.proofs.Jobs.{as_many, tasks_same}
use Rattle.running.proofs.running.Running.next.Goals as goal

pub returns-then-engine-engines-clause-next : goal.returns-then-engine-engines-clause-next
returns-then-engine-engines-clause-next g c =
    let b = c.args.self.now in
    let e = c.args.engine in
    let rs = jobs b.board.residents in
    let st = state_of b.table in
    let same = tasks_same (jobs_of rs) st.slots (as_many rs st b.numbered) in
    let exists : nat_lt e (length (g.P.Roster.tags b.board.platform)) ≡ true = grind (arith, nat_tests, c.if-engine-engines.true, c.engines.ensures) in
    c.next.ensures ∙ (ap (λ ps. option_map named (next e st.clock ps)) (sym same) ∙ sym (ap (λ t. cond t (next_in (view b) e) None) exists))
