-- What the residents of a board ask of its engines.
--   seats_on r e        the seats of the resident r on the engine e
--   asked_by r e        what its parts there ask
--   asked_on rs e       what the residents rs ask of the engine e
--   claims_on rs e      their claims there
--   load_of p           the ticks in a belt cycle of what asks by the pattern p: its largest total over the branches, a period apart
--   load_on rs e        the load of the engine e
--   loads rs            the loads of the 16 engines that there can be
use Rattle.std.specs.Prelude.{ℕ, ◌*◌, ◌/◌, List, map, filter, sum_by, ◌==◌}
use Rattle.std.specs.List.{flat_map, range_with_len}
use Rattle.few.specs.Few.{items}
use Rattle.claim.specs.declared.claim.Claim.{Claim}
use Rattle.plan.specs.Pattern.{part_pattern}
use Rattle.resident.specs.declared.resident.Resident.{Resident}
use Rattle.resident.specs.declared.resident.Seat.{Seat}
use Rattle.theory.specs.Demand.{whole}
use Rattle.theory.specs.Pattern.{Pattern}

abbrev pub seats_on : Resident → ℕ → List Seat
seats_on r e = filter (λ (s : Seat). s.engine == e) (items r.seats)

abbrev pub asked_by : Resident → ℕ → List Pattern
asked_by r e = map (λ (s : Seat). part_pattern r.plan s.tag) (seats_on r e)

abbrev pub asked_on : List Resident → ℕ → List Pattern
asked_on rs e = flat_map (λ r. asked_by r e) rs

abbrev pub claims_on : List Resident → ℕ → List Claim
claims_on rs e = flat_map (λ r. map (λ (s : Seat). s.claim) (seats_on r e)) rs

abbrev pub load_of : Pattern → ℕ
load_of p = whole p * (14400 / p.period)

abbrev pub load_on : List Resident → ℕ → ℕ
load_on rs e = sum_by load_of (asked_on rs e)

abbrev pub loads : List Resident → List ℕ
loads rs = map (load_on rs) (range_with_len 0 16)
