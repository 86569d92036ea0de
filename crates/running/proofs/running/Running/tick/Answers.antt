use Rattle.std.proofs.Common.{rules, ◌≡◌, ℕ, ◌<◌, ◌∙◌, OnSome, None, cond, get_or, map, sym, ap}
use Rattle.std.specs.Option.{option_map}
use Rattle.board.specs.Residents.{jobs}
use Rattle.dispatch.specs.Candidate.{named}
use Rattle.dispatch.specs.Table.{state_of}
use Rattle.dispatch.specs.Ticking.{masked, ran_on}
use Rattle.resident.specs.Resident.{number_of}
use Rattle.runs.specs.Events.{step, tick}
use Rattle.runs.specs.Next.{next}
use Rattle.runs.specs.State.{State}
use Rattle.seated.specs.Jobs.{jobs_of}
use Rattle.running.specs.Ticking.{Ran}
use Rattle.running.specs.View.{of_jobs, view}
use Rattle.running.proofs.Jobs.{as_many, still_numbered, tasks_same, ticks_same, when_some}
use Rattle.running.proofs.running.Running.tick.Goals as goal

pub invariant_of-self : goal.invariant_of-self
invariant_of-self g c =
    let b = c.args.self.now in
    record { numbered = still_numbered c.tick.result b.table c.tick.new.self (masked c.args.served) (masked c.args.done) (map number_of (jobs b.board.residents)) c.tick.ensures.steps c.tick.ensures.refused b.numbered }

pub returns-clause-steps : goal.returns-clause-steps
returns-clause-steps g c =
    let b = c.args.self.now in
    let rs = jobs b.board.residents in
    let st = state_of b.table in
    let t = tick (masked c.args.served) (masked c.args.done) in
    let now : State = of_jobs (jobs_of rs) (state_of c.tick.new.self) in
    let steps : OnSome c.tick.result (now ≡ step (view b) t) =
    when_some c.tick.result (state_of c.tick.new.self ≡ step st t) (now ≡ step (view b) t) (λ is.
    ap (of_jobs (jobs_of rs)) is ∙ ticks_same (jobs_of rs) st (masked c.args.served) (masked c.args.done) (as_many rs st b.numbered)) c.tick.ensures.steps in
    search rules

pub returns-clause-ran : goal.returns-clause-ran
returns-clause-ran g c =
    let b = c.args.self.now in
    let rs = jobs b.board.residents in
    let st = state_of b.table in
    let m = c.args.served in
    let same = tasks_same (jobs_of rs) st.slots (as_many rs st b.numbered) in
    let ran : OnSome c.tick.result (Ran (view b) m c.tick.new.ran) =
    when_some c.tick.result ((e : ℕ) → e < 16 → get_or c.tick.new.ran e None ≡ ran_on e b.table m) (Ran (view b) m c.tick.new.ran) (λ is e low.
    is e low ∙ ap (λ ps. cond (masked m e) (option_map named (next e st.clock ps)) None) (sym same)) c.tick.ensures.ran in
    search rules
