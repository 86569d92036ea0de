-- The parts of a job that sit on an engine: one at most, since an engine has one tag.
use Rattle.std.proofs.Common.{◌≡◌, ◌≢◌, ℕ, Bool, true, false, cond, nat_eq, List, [], ◌∷◌, map, filter, Some, IsSome, unwrap_or, refl, sym, ap, ◌∙◌, subst, inl, inr, arith}
use Rattle.std.specs.List.{AllByRecursion}
use Rattle.std.proofs.lemmas.Bool.{cases_Bool, cases_eq, eq-eqb, eqb-true, ne_eqb}
use Rattle.std.proofs.lemmas.List.Sums.{sum_by-cons}
use Rattle.std.proofs.lemmas.Option.{same_Some}
use Rattle.board.specs.Asked.{asked_by}
use Rattle.engine.specs.Roster.{tag_of}
use Rattle.few.specs.Few.{items}
use Rattle.plan.specs.Pattern.{part_pattern}
use Rattle.resident.specs.declared.resident.Resident.{Resident}
use Rattle.resident.specs.declared.resident.Seat.{Seat}
use Rattle.resident.specs.Resident.{engine_among}
use Rattle.resident.specs.Seats.{all_tags, has_part, parts_of}
use Rattle.resident.proofs.Sitting.{every_part_sits, part_few}
use Rattle.runs.specs.Job.{Apart, pattern_on}
use Rattle.runs.proofs.Keys.{apart_map}
use Rattle.runs.proofs.Lists.{all_from_mem, all_mem, Mem, mem_map}
use Rattle.seated.specs.Jobs.{job_of, seat_of}
use Rattle.seated.specs.Placement.{Placement}
use Rattle.seated.proofs.Lists.{apart_filter, filter_none, range_apart}
use Rattle.seated.proofs.Patterns.{asks_nothing, asks_there}
use Rattle.theory.specs.Demand.{demand, demand_of_all}

abbrev Tagged : List ℕ → List Seat → Type 0
Tagged tags ss = AllByRecursion (λ (s : Seat). tag_of tags s.engine ≡ Some s.tag) ss

-- the seats of the list ss on an engine: none, or one
pub data OnEngine (e : ℕ) (ss : List Seat) : Type 0 where
  none : filter (λ (s : Seat). nat_eq s.engine e) ss ≡ [] → AllByRecursion (λ (s : Seat). s.engine ≢ e) ss → OnEngine e ss
  one : (s : Seat) → filter (λ (s : Seat). nat_eq s.engine e) ss ≡ s ∷ [] → s.engine ≡ e → Mem s ss → OnEngine e ss

on_engine : (tags : List ℕ) (e : ℕ) (ss : List Seat) → Tagged tags ss → Apart (λ (s : Seat). s.tag) ss → OnEngine e ss
on_engine tags e [] tagged apart = none refl tt
on_engine tags e (s ∷ ss) tagged apart = elim (cases_eq s.engine e) [
  | inl here ↦
      let others = all_from_mem (λ (t : Seat). nat_eq t.engine e ≡ false) ss (λ t m. ne_eqb t.engine e (λ there.
      all_mem (λ (x : Seat). x.tag ≢ s.tag) ss t m apart.0
      (same_Some t.tag s.tag (sym (all_mem (λ (x : Seat). tag_of tags x.engine ≡ Some x.tag) ss t m tagged.1) ∙ ap (tag_of tags) (there ∙ sym here) ∙ tagged.0)))) in
      one s
      (ap (λ b. cond b (s ∷ filter (λ (x : Seat). nat_eq x.engine e) ss) (filter (λ (x : Seat). nat_eq x.engine e) ss)) (eq-eqb s.engine e here)
      ∙ ap (λ l. s ∷ l) (filter_none (λ (x : Seat). nat_eq x.engine e) ss others))
      here (inl refl)
  | inr away ↦
      let skip = ap (λ b. cond b (s ∷ filter (λ (x : Seat). nat_eq x.engine e) ss) (filter (λ (x : Seat). nat_eq x.engine e) ss)) (ne_eqb s.engine e away) in
      more skip away (on_engine tags e ss tagged.1 apart.1)
]
  where
    more : filter (λ (x : Seat). nat_eq x.engine e) (s ∷ ss) ≡ filter (λ (x : Seat). nat_eq x.engine e) ss → s.engine ≢ e → OnEngine e ss → OnEngine e (s ∷ ss)
    more skip away (none z a) = none (skip ∙ z) (away, a)
    more skip away (one t is there m) = one t (skip ∙ is) there (inr m)

-- the engine of a tag among seats
among_first : (ss : List Seat) → Apart (λ (s : Seat). s.tag) ss → (s : Seat) → Mem s ss → engine_among ss s.tag ≡ Some s.engine
among_first [] apart s m = absurd m
among_first (t ∷ ss) apart s m = elim m [
  | inl same ↦ rw (sym same) (ap (λ b. cond b (Some t.engine) (engine_among ss t.tag)) (eq-eqb t.tag t.tag refl))
  | inr later ↦
      ap (λ b. cond b (Some t.engine) (engine_among ss s.tag)) (ne_eqb t.tag s.tag (λ same. all_mem (λ (x : Seat). x.tag ≢ t.tag) ss s later apart.0 (sym same)))
      ∙ among_first ss apart.1 s later
]

among_found : (ss : List Seat) (g : ℕ) → IsSome (engine_among ss g) → (s : Seat) × Mem s ss × (s.tag ≡ g) × (engine_among ss g ≡ Some s.engine)
among_found [] g some = absurd (let z : ◌≡◌ {A = Bool} false true = some in cc)
among_found (s ∷ ss) g some = elim (cases_Bool (nat_eq s.tag g)) [
  | inl yes' ↦ (s, inl refl, eqb-true s.tag g yes', ap (λ b. cond b (Some s.engine) (engine_among ss g)) yes')
  | inr no' ↦
      let (t, m, tag, is) = among_found ss g (rw no' at some) in
      (t, inr m, tag, ap (λ b. cond b (Some s.engine) (engine_among ss g)) no' ∙ is)
]

module _ (r : Resident) where
  tags_apart : Apart (λ (s : Seat). s.tag) (items r.seats)
  tags_apart = apart_map (λ x. x) (λ (s : Seat). s.tag) (items r.seats) (subst (Apart (λ x. x)) (sym r.parts) (apart_filter (λ x. x) (has_part r.plan) all_tags (range_apart 0 8)))

  -- a seat is of a part
  pub seat_part : (s : Seat) → Mem s (items r.seats) → has_part r.plan s.tag ≡ true
  seat_part s m =
      all_mem (λ g. has_part r.plan g ≡ true) (parts_of r.plan) s.tag
      (subst (Mem s.tag) r.parts (mem_map (λ (x : Seat). x.tag) (items r.seats) s m))
      (passing (has_part r.plan) all_tags)
    where
      passing : (p : ℕ → Bool) (xs : List ℕ) → AllByRecursion (λ x. p x ≡ true) (filter p xs)
      passing p [] = tt
      passing p (x ∷ xs) = elim (cases_Bool (p x)) [
        | inl y ↦ rw y (y, passing p xs)
        | inr n ↦ rw n (passing p xs)
      ]

  seat_is : (s : Seat) → Mem s (items r.seats) → seat_of r s.tag ≡ s.engine
  seat_is s m = ap (λ o. unwrap_or o 0) (among_first (items r.seats) tags_apart s m)

  -- the seat of a part
  part_seat : (g : ℕ) → has_part r.plan g ≡ true → (s : Seat) × Mem s (items r.seats) × (s.tag ≡ g) × (seat_of r g ≡ s.engine)
  part_seat g has =
      let (s, m, tag, is) = among_found (items r.seats) g (every_part_sits r g (part_few r.plan g has) has) in
      (s, m, tag, ap (λ o. unwrap_or o 0) is)

  module _ (tags : List ℕ) (tagged : Tagged tags (items r.seats)) where
    -- the seats of a job are a placement
    pub seats_place : Placement tags r.plan (seat_of r)
    seats_place g has =
        let (s, m, tag, is) = part_seat g has in
        ap (tag_of tags) is ∙ (all_mem (λ (x : Seat). tag_of tags x.engine ≡ Some x.tag) (items r.seats) s m tagged ∙ ap Some tag)

    pub seats_of : (e : ℕ) → OnEngine e (items r.seats)
    seats_of e = on_engine tags e (items r.seats) tagged tags_apart

    -- what its parts on an engine ask is what the job asks there
    pub asks_by_seats : (e n : ℕ) → demand (pattern_on e (job_of r)) n ≡ demand_of_all (asked_by r e) n
    asks_by_seats e n = go (seats_of e)
      where
        go : OnEngine e (items r.seats) → demand (pattern_on e (job_of r)) n ≡ demand_of_all (asked_by r e) n
        go (none z away) =
            asks_nothing r.plan (seat_of r) e (λ g has there.
            let (s, m, tag, is) = part_seat g has in
            all_mem (λ (x : Seat). x.engine ≢ e) (items r.seats) s m away (sym is ∙ there)) n
            ∙ sym (ap (λ ss. demand_of_all (map (λ (s : Seat). part_pattern r.plan s.tag) ss) n) z)
        go (one s is here m) =
            let q = part_pattern r.plan s.tag in
            let single : demand_of_all (q ∷ []) n ≡ demand q n = omega (arith, sum_by-cons (λ i. demand i n) q []) in
            ap (λ q. demand q n) (asks_there r.plan (seat_of r) e tags seats_place s.tag (seat_is s m ∙ here) (seat_part s m))
            ∙ sym (ap (λ ss. demand_of_all (map (λ (s : Seat). part_pattern r.plan s.tag) ss) n) is ∙ single)
