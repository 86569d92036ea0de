use Rattle.std.proofs.Common.{◌≡◌, ◌<◌, ◌≤◌, true, length, nat_le, nat_lt, map, ap, ◌∙◌, arith}
use Rattle.std.proofs.lemmas.Bool.Decides.{nat_tests}
use Rattle.board.specs.Residents.{jobs}
use Rattle.dispatch.specs.Kept.{kept_slot}
use Rattle.dispatch.specs.Opening.{opened_in}
use Rattle.dispatch.specs.Table.{arrived_last, slots_in, state_of}
use Rattle.few.specs.Few.{items}
use Rattle.runs.specs.Events.{arrive_at, free_at}
use Rattle.runs.specs.Job.{Job}
use Rattle.running.specs.Arriving.{free_from}
use Rattle.running.specs.Numbers.{numbers_in}
use Rattle.running.specs.View.{of_jobs, with_jobs}
use Rattle.seated.specs.Jobs.{job_of, jobs_of}
use Rattle.running.proofs.Arrivals.{arrival_numbers, arrives, free_same, shown_kept, slot_grants, stands}
use Rattle.running.proofs.running.Running.arrive.Goals as goal

pub invariant_of-self : goal.invariant_of-self
invariant_of-self g c =
    let b = c.args.self.now in
    record { numbered = ap numbers_in c.open.ensures ∙ (arrival_numbers c.args.number b.table.clock (items c.in_ok-tasks.tasks) (state_of b.table).slots ∙ b.numbered) }

pub returns-clause-granted : goal.returns-clause-granted
returns-clause-granted g c =
    let b = c.args.self.now in
    let n = c.args.number in
    let rs = jobs b.board.residents in
    let ss = (state_of b.table).slots in
    let opens = c.in_ok-tasks.ensures in
    let here = stands n opens.job rs ss b.numbered opens.found in
    let free : free_at here.slot.job here.slot.arrivals ≤ b.table.clock = omega (
      arith,
      free_same here.slot.job here.slot.arrivals,
      ap (λ (j : Job). free_from j.period (arrived_last n ss)) here.job,
      ap (free_from here.slot.job.period) here.last,
      opens.free,
    ) in
    let lies : c.args.branch < length here.slot.job.branches = omega (arith, ap (λ (j : Job). length j.branches) here.job, opens.lies) in
    slot_grants n b.table.clock c.args.branch here.slot (with_jobs (jobs_of rs) ss) here.found (grind (arith, nat_tests, lies)) (grind (arith, nat_tests, free))

pub returns-clause-arrives : goal.returns-clause-arrives
returns-clause-arrives g c =
    let b = c.args.self.now in
    let n = c.args.number in
    let t = b.table.clock in
    let rs = jobs b.board.residents in
    let ss = (state_of b.table).slots in
    let opens = c.in_ok-tasks.ensures in
    let ws = items c.in_ok-tasks.tasks in
    let lies : nat_lt c.args.branch (length (job_of opens.job).branches) ≡ true = grind (arith, nat_tests, opens.lies) in
    let free : nat_le (free_from opens.job.plan.job.period (arrived_last n ss)) t ≡ true = grind (arith, nat_tests, opens.free) in
    let slots : with_jobs (jobs_of rs) (map (opened_in n t ws) ss) ≡ map kept_slot (map (arrive_at t n c.args.branch) (with_jobs (jobs_of rs) ss)) =
    arrives n t c.args.branch ws opens.job opens.tasks lies rs ss b.numbered opens.found b.board.residents.apart (shown_kept (slots_in b.table)) free in
    ap (of_jobs (jobs_of rs)) c.open.ensures ∙ (λ i. record { clock = t; slots = slots i; lates = b.table.late_total })
