-- The loads of the engines, by the claims on them.
use Rattle.std.proofs.Common.{◌≡◌, ℕ, ◌+◌, ◌*◌, ◌/◌, ◌≤◌, Bool, true, false, cond, List, [], ◌∷◌, map, length, refl, ap, ◌∙◌, arith, Option, Some, None}
use Rattle.std.specs.Prelude.{filter, sum_by}
use Rattle.std.specs.List.{All}
use Rattle.std.proofs.lemmas.List.Concat.{flat_map-cons}
use Rattle.std.proofs.lemmas.List.Elements.{All-head, All-tail}
use Rattle.std.proofs.lemmas.List.Sums.{sum_by-cons, sum_by-append}
use Rattle.few.specs.declared.few.Few.{Few}
use Rattle.few.specs.Few.{items}
use Rattle.board.specs.declared.residents.Residents.{Residents}
use Rattle.board.specs.Listed.{listed}
use Rattle.board.specs.Residents.{jobs}
use Rattle.std.proofs.lemmas.List.{length-take}
use Rattle.board.specs.Asked.{asked_by, asked_on, load_of, load_on}
use Rattle.board.proofs.Asking.{is_on, seats_few}
use Rattle.fit.specs.Fits.{in_cycle}
use Rattle.plan.specs.declared.plan.Plan.{Plan}
use Rattle.plan.specs.Pattern.{part_pattern}
use Rattle.resident.specs.declared.resident.Resident.{Resident}
use Rattle.resident.specs.declared.resident.Seat.{Seat}
use Rattle.resident.specs.Seats.{Fair}
use Rattle.theory.specs.Demand.{whole}
use Rattle.theory.specs.Pattern.{Pattern}

pub seat_load : (p : Plan) (s : Seat) → Fair p s → in_cycle s.claim ≡ load_of (part_pattern p s.tag)
seat_load p s fair = ap (λ w. w * (14400 / s.claim.period)) fair.claims.its_whole ∙ ap (λ t. whole (part_pattern p s.tag) * (14400 / t)) fair.claims.its_period

kept_sum : (f : Seat → ℕ) (b : Bool) (s : Seat) (ss : List Seat) → sum_by f (cond b (s ∷ ss) ss) ≡ cond b (f s) 0 + sum_by f ss
kept_sum f true s ss = sum_by-cons f s ss
kept_sum f false s ss = omega arith

kept_sum_map : (f : Pattern → ℕ) (g : Seat → Pattern) (b : Bool) (s : Seat) (ss : List Seat) → sum_by f (map g (cond b (s ∷ ss) ss)) ≡ cond b (f (g s)) 0 + sum_by f (map g ss)
kept_sum_map f g true s ss = sum_by-cons f (g s) (map g ss)
kept_sum_map f g false s ss = omega arith

module _ (p : Plan) (e : ℕ) where
  -- what asks by the seats is what asks by their parts
  pub seats_load : (ss : List Seat) → All (Fair p) ss
      → sum_by (λ (s : Seat). in_cycle s.claim) (filter (is_on e) ss) ≡ sum_by load_of (map (λ (s : Seat). part_pattern p s.tag) (filter (is_on e) ss))
  seats_load [] all = refl
  seats_load (s ∷ ss) all =
      let rec = seats_load ss (All-tail (Fair p) s ss all) in
      let here = seat_load p s (All-head (Fair p) s ss all) in
      let left = kept_sum (λ (x : Seat). in_cycle x.claim) (is_on e s) s (filter (is_on e) ss) in
      let right = kept_sum_map load_of (λ (x : Seat). part_pattern p x.tag) (is_on e s) s (filter (is_on e) ss) in
      let same = ap (λ n. cond (is_on e s) n 0) here in
      omega arith

  pub seats_light : (ss : List Seat) → All (Fair p) ss → sum_by (λ (s : Seat). in_cycle s.claim) (filter (is_on e) ss) ≤ 14400 * length ss
  seats_light [] all = omega arith
  seats_light (s ∷ ss) all =
      let rec = seats_light ss (All-tail (Fair p) s ss all) in
      let paced = (All-head (Fair p) s ss all).paced in
      let left = kept_sum (λ (x : Seat). in_cycle x.claim) (is_on e s) s (filter (is_on e) ss) in
      let most = light (is_on e s) (in_cycle s.claim) in
      omega arith where
        light : (b : Bool) (n : ℕ) → cond b n 0 ≤ n
        light true n = omega arith
        light false n = omega arith

pub by_resident : (r : Resident) (e : ℕ) → sum_by (λ (s : Seat). in_cycle s.claim) (filter (is_on e) (items r.seats)) ≡ sum_by load_of (asked_by r e)
by_resident r e = seats_load r.plan e (items r.seats) r.seated

pub resident_light : (r : Resident) (e : ℕ) → sum_by load_of (asked_by r e) ≤ 115200
resident_light r e = omega (arith, seats_light r.plan e (items r.seats) r.seated, seats_few r, by_resident r e)

pub by_board : (rs : List Resident) (e : ℕ) → sum_by (λ r. sum_by load_of (asked_by r e)) rs ≡ load_on rs e
by_board [] e = refl
by_board (r ∷ rs) e =
    let rec = by_board rs e in
    omega (
      arith,
      sum_by-cons (λ x. sum_by load_of (asked_by x e)) r rs,
      ap (sum_by load_of) (flat_map-cons (λ x. asked_by x e) r rs),
      sum_by-append load_of (asked_by r e) (asked_on rs e),
    )

pub board_light : (rs : List Resident) (e : ℕ) → sum_by (λ r. sum_by load_of (asked_by r e)) rs ≤ 115200 * length rs
board_light [] e = omega arith
board_light (r ∷ rs) e = let rec = board_light rs e in omega (arith, sum_by-cons (λ x. sum_by load_of (asked_by x e)) r rs, resident_light r e)

pub jobs_few : (rs : Residents) → length (jobs rs) ≤ 16
jobs_few rs = few rs.kept where
  few : (o : Option (Few Resident 16)) → length (listed o) ≤ 16
  few None = omega arith
  few (Some f) = omega (arith, length-take f.len f.places, f.fits)
