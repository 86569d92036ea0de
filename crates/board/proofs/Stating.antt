-- The claims of residents state what they ask.
use Rattle.std.proofs.Common.{ℕ, List, [], ◌∷◌, ◌++◌, map, inl, inr, ◌≤◌, arith}
use Rattle.std.specs.Prelude.{filter}
use Rattle.std.specs.List.{All}
use Rattle.std.proofs.lemmas.Bool.{cases_Bool}
use Rattle.std.proofs.lemmas.List.Concat.{flat_map-cons}
use Rattle.std.proofs.lemmas.List.Elements.{All-head, All-tail}
use Rattle.std.proofs.lemmas.List.Sums.{sum_by-cons}
use Rattle.few.specs.Few.{items}
use Rattle.board.specs.Asked.{asked_by, asked_on, claims_on}
use Rattle.board.proofs.Asking.{claims_of, is_on}
use Rattle.claim.specs.declared.claim.Claim.{Claim}
use Rattle.engine.specs.Supply.{Lawful}
use Rattle.fit.specs.Fits.{Fits, Paced, in_cycle}
use Rattle.fit.specs.Stated.{Stated, States}
use Rattle.fit.proofs.Pacing.{paced}
use Rattle.plan.specs.declared.plan.Plan.{Plan}
use Rattle.plan.specs.Pattern.{part_pattern}
use Rattle.plan.proofs.Formed.{part_formed, period_divides}
use Rattle.resident.specs.declared.resident.Resident.{Resident}
use Rattle.resident.specs.declared.resident.Seat.{Seat}
use Rattle.resident.specs.Seats.{Fair}
use Rattle.claim.specs.Claim.{Claims}
use Rattle.theory.specs.Pattern.{Pattern}

pub part_states : (p : Plan) (g : ℕ) (c : Claim) → Claims (part_pattern p g) c → States (part_pattern p g) c
part_states p g c claims = record { formed = part_formed p g; divides = period_divides p; claims = claims }

stated_append : (ps qs : List Pattern) (cs ds : List Claim) → Stated ps cs → Stated qs ds → Stated (ps ++ qs) (cs ++ ds)
stated_append [] qs [] ds a b = b
stated_append [] qs (c ∷ cs) ds a b = absurd a
stated_append (p ∷ ps) qs [] ds a b = absurd a
stated_append (p ∷ ps) qs (c ∷ cs) ds a b = (a.0, stated_append ps qs cs ds a.1 b)

abbrev asked_of : Plan → ℕ → List Seat → List Pattern
asked_of p e ss = map (λ (s : Seat). part_pattern p s.tag) (filter (is_on e) ss)

seats_stated : (p : Plan) (e : ℕ) (ss : List Seat) → All (Fair p) ss → Stated (asked_of p e ss) (claims_of e ss)
seats_stated p e [] all = tt
seats_stated p e (s ∷ ss) all =
    let rec = seats_stated p e ss (All-tail (Fair p) s ss all) in
    let here = part_states p s.tag s.claim (All-head (Fair p) s ss all).claims in
    elim (cases_Bool (is_on e s)) [
      | inl yes' ↦ rw yes' (here, rec)
      | inr no' ↦ rw no' rec
    ]

pub stated_on : (rs : List Resident) (e : ℕ) → Stated (asked_on rs e) (claims_on rs e)
stated_on [] e = tt
stated_on (r ∷ rs) e =
    rw (flat_map-cons (λ (x : Resident). asked_by x e) r rs, flat_map-cons (λ (x : Resident). claims_of e (items x.seats)) r rs)
    (stated_append (asked_by r e) (asked_on rs e) (claims_of e (items r.seats)) (claims_on rs e) (seats_stated r.plan e (items r.seats) r.seated) (stated_on rs e))

first_paced : (c : Claim) (cs : List Claim) → Paced (c ∷ cs) → in_cycle c ≤ 14400
first_paced c cs paced = omega (arith, sum_by-cons in_cycle c cs)

-- a claim that fits beside residents is paced
pub fits_paced : (s : ℕ → ℕ) (cycle quota : ℕ) → Lawful s cycle quota → (rs : List Resident) (e : ℕ) (p : Pattern) (c : Claim) → States p c → Fits s (p ∷ asked_on rs e) → in_cycle c ≤ 14400
fits_paced s cycle quota law rs e p c states fit = first_paced c (claims_on rs e) (paced s cycle quota law (p ∷ asked_on rs e) (c ∷ claims_on rs e) (states, stated_on rs e) fit)
