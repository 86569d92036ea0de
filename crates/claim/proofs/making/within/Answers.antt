use Rattle.std.proofs.Common.{Bool, rules, arith, ◌∙◌}
use Rattle.std.specs.Prelude.{filter}
use borrow.Author.Tests.{tests}
use Rattle.std.proofs.lemmas.Iterator.{YieldsList-from_slice, YieldsList-from_map}
use Rattle.std.proofs.lemmas.Iterator.Consumers.{YieldsList-at, YieldsList-from_filter, fits_by_from_yields_list, sum_by_from_yields_List}
use Rattle.claim.proofs.Within.{inner_light, slight_of, taken, within_is}
use Rattle.plan.specs.declared.part.Task.{Task}
use Rattle.plan.specs.Part.{tasks_in}
use Rattle.claim.proofs.making.within.Goals as goal

pub sum-requires-clause-fits : goal.sum-requires-clause-fits
sum-requires-clause-fits c =
    let ts = tasks_in c.args.part.now in
    let p : Task → Bool = taken c.args.row.now c.args.«from» c.args.by in
    fits_by_from_yields_list (λ (t : Task). t.ticks) (filter p ts) _ _
    (YieldsList-from_map _ (λ (t : Task). t.ticks) (YieldsList-at c.map.ensures.source (YieldsList-from_filter _ p (YieldsList-at c.filter.ensures.source (YieldsList-from_slice ts (search rules))) c.filter.ensures.closure (λ x b q k. search (rules, tests)))) c.map.ensures.closure (λ x r q k. search rules))
    (omega (arith, inner_light c.args.row.now c.args.«from» c.args.by ts (slight_of c.args.part.now), within_is c.args.row.now c.args.«from» c.args.by ts))

pub returns-clause-work : goal.returns-clause-work
returns-clause-work c =
    let ts = tasks_in c.args.part.now in
    let p : Task → Bool = taken c.args.row.now c.args.«from» c.args.by in
    sum_by_from_yields_List (λ (t : Task). t.ticks) (filter p ts) _ c.sum.result c.sum.ensures.ran
    (YieldsList-from_map _ (λ (t : Task). t.ticks) (YieldsList-at c.map.ensures.source (YieldsList-from_filter _ p (YieldsList-at c.filter.ensures.source (YieldsList-from_slice ts (search rules))) c.filter.ensures.closure (λ x b q k. search (rules, tests)))) c.map.ensures.closure (λ x r q k. search rules))
    ∙ within_is c.args.row.now c.args.«from» c.args.by ts

pub returns-clause-light : goal.returns-clause-light
returns-clause-light c =
    omega (arith, returns-clause-work c, inner_light c.args.row.now c.args.«from» c.args.by (tasks_in c.args.part.now) (slight_of c.args.part.now))
