-- Jobs whose one part is of tag 0, on a board without jobs.
use Rattle.std.proofs.Common.{◌≡◌, ℕ, ◌+◌, ◌*◌, ◌%◌, ◌<◌, ◌≤◌, true, eqb, List, [], ◌∷◌, map, filter, sym, ap, ◌∙◌, subst, arith}
use Rattle.std.specs.Prelude.{Some}
use Rattle.std.specs.List.{All}
use Rattle.std.proofs.lemmas.Bool.{eq-eqb}
use Rattle.std.proofs.lemmas.List.{append-nil}
use Rattle.std.proofs.lemmas.List.Concat.{flat_map-cons}
use Rattle.std.proofs.lemmas.List.Elements.{All-head, All-nil}
use Rattle.board.specs.Asked.{asked_by, asked_on}
use Rattle.board.specs.Loading.{Free, IsLoaded}
use Rattle.board.specs.Placing.{Rules, Sits}
use Rattle.engine.specs.Roster.{tag_of}
use Rattle.fit.specs.Fits.{Fits}
use Rattle.few.specs.Few.{items}
use Rattle.plan.specs.Pattern.{part_pattern}
use Rattle.resident.specs.declared.resident.Resident.{Resident}
use Rattle.resident.specs.declared.resident.Seat.{Seat}
use Rattle.resident.specs.Seats.{all_tags}
use Rattle.task.specs.declared.node.Node.{Node}
use Rattle.task.specs.declared.node.Numbering.TheVariants.{Choice}
use Rattle.task.specs.Picks.{numbers}
use Rattle.theory.specs.Pattern.{Pattern, WellFormed}
use Rattle.worked.specs.Cases.{Complete, Placed, Gets, Writes}
use Rattle.worked.proofs.Fitting.{climbs, fits_by, quickly, unfit_by}
use Rattle.worked.proofs.Known.{asks, is_part, plan_parts, span_of}
use Rattle.worked.proofs.Loading.{Nowhere, placed_by, refused_by_10, Taken, told}
use Rattle.worked.proofs.Sitting.{one_seat, seat_where}

-- on such a board no number is taken
pub none_there : (n : ℕ) → Free [] n
none_there n = All-nil _

module _ (rules : Rules) (text : List ℕ) (n t d : ℕ) (ns : List Node) (writes : Writes text n t d ns) where
  -- the part fits on engine 0
  pub placed_single : (c : ℕ) → c < numbers Choice ns → span_of ns c ≤ d
      → ((g : ℕ) → is_part rules.local d ns c g ≡ true → g ≡ 0)
      → tag_of rules.tags 0 ≡ Some 0
      → (p : Pattern) → asks rules.local t d ns c 0 ≡ p
      → 1 ≤ p.period → p.period % p.period ≡ 0
      → ((a b : ℕ) → rules.supply 0 a + rules.supply 0 b ≤ rules.supply 0 (a + b))
      → (bs : List ℕ) → climbs (p ∷ []) (rules.supply 0) 0 (2 * p.period + 1) bs ≡ true
      → Placed rules [] text
  placed_single c is_choice short only there p is some divides joins bs climb =
      placed_by rules [] text n t d ns writes (none_there n) (omega arith) c is_choice short (λ g asking.
      let at = only g asking.0 in
      let formed : WellFormed p = subst WellFormed (ap (asks rules.local t d ns c) at ∙ is) asking.1 in
      let fits : Fits (rules.supply 0) (p ∷ []) = fits_by (p ∷ []) (formed, tt) (rules.supply 0) joins p.period some (divides, tt) bs climb in
      let taken : Taken rules [] text n t d ns writes c 0 = (0, there, subst (λ (q : Pattern). Fits (rules.supply 0) (q ∷ [])) (sym is) fits) in
      subst (Taken rules [] text n t d ns writes c) (sym at) taken)

  -- in m ticks the part asks for more than any engine of its tag serves
  pub refused_single : Complete rules.listing → numbers Choice ns ≡ 1 → span_of ns 0 ≤ d
      → is_part rules.local d ns 0 0 ≡ true
      → (p : Pattern) → asks rules.local t d ns 0 0 ≡ p
      → (m : ℕ) → ((e : ℕ) → tag_of rules.tags e ≡ Some 0 → rules.supply e m < quickly (p ∷ []) m)
      → Gets rules [] text 10
  refused_single complete one short has p is m more =
      refused_by_10 rules [] text n t d ns writes (none_there n) (omega arith) complete 0 (omega arith) short (λ c low _.
      let at : 0 ≡ c = omega arith in
      subst (Nowhere rules [] text n t d ns writes) at (record {
        tag = 0;
        few = omega arith;
        has = has;
        unfit = λ formed (e, there, fits).
            unfit_by (rules.supply e) (p ∷ []) (subst WellFormed is formed, tt) m (more e there) (subst (λ (q : Pattern). Fits (rules.supply e) (q ∷ [])) is fits);
      }))

  -- a job that was placed has one seat, of tag 0
  pub record Seated (r : Resident) : Type 0 where
    pub seat : Seat
    pub alone : items r.seats ≡ seat ∷ []
    pub tag : seat.tag ≡ 0
    pub there : tag_of rules.tags seat.engine ≡ Some 0

  pub seated : Complete rules.listing → (r : Resident) → IsLoaded rules [] text r → filter (is_part rules.local d ns r.plan.choice) all_tags ≡ 0 ∷ [] → Seated r
  seated complete r loaded parts =
      let is = told rules [] text n t d ns writes r.plan.job loaded.comes.reads in
      let placed = loaded.places.placed in
      let (s, alone, tag) = one_seat (items r.seats) 0 (r.parts ∙ plan_parts n t d ns r.plan.job is rules.local r.plan.choice r.plan placed.planned ∙ parts) in
      let sits = All-head (Sits rules [] r.plan) s [] (subst (All (Sits rules [] r.plan)) alone placed.sits) in
      record { seat = s; alone = alone; tag = tag; there = seat_where rules complete [] r.plan s sits ∙ ap Some tag }

-- so it asks for no more than its part
pub asked_alone : (r : Resident) (s : Seat) (e : ℕ) → items r.seats ≡ s ∷ [] → s.tag ≡ 0 → s.engine ≡ e → asked_on (r ∷ []) e ≡ part_pattern r.plan 0 ∷ []
asked_alone r s e alone tag there =
    flat_map-cons (λ x. asked_by x e) r []
    ∙ append-nil (asked_by r e)
    ∙ ap (λ (ss : List Seat). map (λ (x : Seat). part_pattern r.plan x.tag) (filter (λ (x : Seat). eqb x.engine e) ss)) alone
    ∙ rw (eq-eqb s.engine e there) (ap (λ (g : ℕ). part_pattern r.plan g ∷ []) tag)
