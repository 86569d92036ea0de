use Rattle.std.proofs.Common.{rules, arith, ◌∙◌}
use Rattle.std.specs.Prelude.{filter}
use borrow.Author.Tests.{tests}
use Rattle.std.proofs.lemmas.Iterator.{YieldsList-from_slice, YieldsList-from_map}
use Rattle.std.proofs.lemmas.Iterator.Consumers.{YieldsList-at, YieldsList-from_filter, fits_by_from_yields_list, sum_by_from_yields_List}
use Rattle.few.specs.Few.{items}
use Rattle.fit.specs.Fits.{in_cycle}
use Rattle.resident.specs.declared.resident.Seat.{Seat}
use Rattle.board.proofs.Asking.{is_on}
use Rattle.board.proofs.Loads.{by_resident, resident_light}
use Rattle.board.proofs.asked.load_by.Goals as goal

pub sum-requires-clause-fits : goal.sum-requires-clause-fits
sum-requires-clause-fits c =
    let r = c.args.resident.now in
    let e = c.args.engine in
    fits_by_from_yields_list (λ (s : Seat). in_cycle s.claim) (filter (is_on e) (items r.seats)) _ _
    (YieldsList-from_map _ (λ (s : Seat). in_cycle s.claim) (YieldsList-at c.map.ensures.source (YieldsList-from_filter _ (is_on e) (YieldsList-at c.filter.ensures.source (YieldsList-from_slice (items r.seats) (search rules))) c.filter.ensures.closure (λ x b q k. search (rules, tests)))) c.map.ensures.closure (λ x r q k. search rules))
    (omega (arith, by_resident r e, resident_light r e))

pub returns-clause-load : goal.returns-clause-load
returns-clause-load c =
    let r = c.args.resident.now in
    let e = c.args.engine in
    sum_by_from_yields_List (λ (s : Seat). in_cycle s.claim) (filter (is_on e) (items r.seats)) _ c.sum.result c.sum.ensures.ran
    (YieldsList-from_map _ (λ (s : Seat). in_cycle s.claim) (YieldsList-at c.map.ensures.source (YieldsList-from_filter _ (is_on e) (YieldsList-at c.filter.ensures.source (YieldsList-from_slice (items r.seats) (search rules))) c.filter.ensures.closure (λ x b q k. search (rules, tests)))) c.map.ensures.closure (λ x r q k. search rules))
    ∙ by_resident r e

pub returns-clause-light : goal.returns-clause-light
returns-clause-light c = omega (arith, returns-clause-load c, resident_light c.args.resident.now c.args.engine)
