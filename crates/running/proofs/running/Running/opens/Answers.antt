use Rattle.std.proofs.Common.{rules, ◌≡◌, ◌<◌, ◌≤◌, true, false, length, nat_lt, get_or, [], None, Some, sym, ap, ◌∙◌, arith}
use Rattle.std.proofs.lemmas.Bool.Decides.{nat_tests}
use Rattle.std.proofs.lemmas.List.{get_or-map, length-map}
use Rattle.std.specs.Option.{option_map}
use Rattle.board.specs.Residents.{jobs, resident_of}
use Rattle.dispatch.specs.Table.{arrived_last, state_of}
use Rattle.plan.specs.Plan.{reached_rows}
use Rattle.runs.specs.Job.{Job}
use Rattle.running.specs.Arriving.{free_from}
use Rattle.running.specs.Reached.{reached_of}
use Rattle.running.proofs.Arrivals.{free_same, no_slot, stands}
use Rattle.running.proofs.running.Running.opens.Goals as goal

pub returns-in_default : goal.returns-in_default
returns-in_default g c =
    let b = c.args.self.now in
    let none : resident_of (jobs b.board.residents) c.args.number ≡ None = sym c.resident.ensures ∙ ap (option_map (λ r. r.now)) c.in_default.is in
    no_slot c.args.number (jobs b.board.residents) (state_of b.table).slots none

pub returns-in_default-get : goal.returns-in_default-get
returns-in_default-get g c =
    let b = c.args.self.now in
    let rs = jobs b.board.residents in
    let r = c.in-Some.resident.now in
    let found : resident_of rs c.args.number ≡ Some r = sym c.resident.ensures ∙ ap (option_map (λ x. x.now)) c.in-Some.is in
    let here = stands c.args.number r rs (state_of b.table).slots b.numbered found in
    let test : nat_lt c.args.branch (length c.deref.result.now) ≡ false = sym c.in_default-get.ensures.lookup.0 in
    let beyond : length (reached_rows r.plan) ≤ c.args.branch = grind (arith, nat_tests, test, ap length c.deref.ensures.0) in
    (here.slot, here.found, omega (arith, ap (λ (j : Job). length j.branches) here.job, length-map (reached_rows r.plan) (reached_of r), beyond))

pub returns-then-not-may_arrive : goal.returns-then-not-may_arrive
returns-then-not-may_arrive g c =
    let b = c.args.self.now in
    let rs = jobs b.board.residents in
    let r = c.in-Some.resident.now in
    let found : resident_of rs c.args.number ≡ Some r = sym c.resident.ensures ∙ ap (option_map (λ x. x.now)) c.in-Some.is in
    let here = stands c.args.number r rs (state_of b.table).slots b.numbered found in
    let test : nat_lt c.args.branch (length c.deref.result.now) ≡ true = sym c.in-Some-get.ensures.lookup.0 in
    let low : c.args.branch < length (reached_rows r.plan) = grind (arith, nat_tests, test, ap length c.deref.ensures.0) in
    let from = ap (free_from r.plan.job.period) c.last_arrival-last.ensures in
    let soon : b.table.clock < free_from r.plan.job.period (arrived_last c.args.number (state_of b.table).slots) = grind (arith, nat_tests, sym c.may_arrive.ensures ∙ c.if-not-may_arrive.true, from, c.clock.ensures) in (
      here.slot,
      here.found,
      omega (arith, ap (λ (j : Job). length j.branches) here.job, length-map (reached_rows r.plan) (reached_of r), low),
      omega (arith, free_same here.slot.job here.slot.arrivals, ap (λ (j : Job). free_from j.period (arrived_last c.args.number (state_of b.table).slots)) here.job, ap (free_from here.slot.job.period) here.last, soon),
    )

pub returns : goal.returns
returns g c =
    let b = c.args.self.now in
    let rs = jobs b.board.residents in
    let r = c.in-Some.resident.now in
    let found : resident_of rs c.args.number ≡ Some r = sym c.resident.ensures ∙ ap (option_map (λ x. x.now)) c.in-Some.is in
    let test : nat_lt c.args.branch (length c.deref.result.now) ≡ true = sym c.in-Some-get.ensures.lookup.0 in
    let low : c.args.branch < length (reached_rows r.plan) = grind (arith, nat_tests, test, ap length c.deref.ensures.0) in
    let from = ap (free_from r.plan.job.period) c.last_arrival-last.ensures in
    let late : free_from r.plan.job.period (arrived_last c.args.number (state_of b.table).slots) ≤ b.table.clock = grind (arith, nat_tests, sym c.may_arrive.ensures ∙ c.if-not-may_arrive.false, from, c.clock.ensures) in
    let row : c.in-Some-get.row.now ≡ get_or (reached_rows r.plan) c.args.branch [] = (let is : c.in-Some-get.row.now ≡ get_or c.deref.result.now c.args.branch [] = search rules in is ∙ ap (λ l. get_or l c.args.branch []) c.deref.ensures.0) in
    record {
      job = r;
      found = found;
      lies = omega (arith, length-map (reached_rows r.plan) (reached_of r), low);
      free = late;
      tasks = c.reached.ensures ∙ (ap (reached_of r) row ∙ sym (get_or-map (reached_of r) (reached_rows r.plan) c.args.branch [] [] low));
    }
