-- Where a job takes every tick of the one engine, there is none left for another.
use Rattle.std.proofs.Common.{◌≡◌, ℕ, zero, suc, ◌*◌, ◌/◌, ◌%◌, ◌≤◌, eqb, leb, List, [], ◌∷◌, filter, refl, sym, ap, ◌∙◌, subst, mul_comm, arith}
use native.Mathlib.Nat.{div-add-mod}
use Rattle.std.specs.Prelude.{Some, ◌≢◌}
use Rattle.std.proofs.lemmas.Bool.{and_parts, eqb-true, le-leb, leb-true}
use Rattle.std.proofs.lemmas.List.Elements.{All-cons}
use Rattle.std.proofs.lemmas.List.Sums.{sum_by-cons}
use Rattle.std.proofs.lemmas.Option.{none-some}
use Rattle.board.specs.Asked.{asked_on}
use Rattle.board.specs.Loading.{Free, IsLoaded}
use Rattle.computed.specs.Tables.{each, falling, rising, some_below}
use Rattle.engine.specs.Roster.{tag_of}
use Rattle.engine.specs.Whole.{whole_supply}
use Rattle.fit.specs.Fits.{Fits}
use Rattle.resident.specs.declared.resident.Resident.{Resident}
use Rattle.resident.specs.Resident.{number_of}
use Rattle.resident.specs.Seats.{all_tags}
use Rattle.slack.specs.declared.rule.Position.{Position}
use Rattle.slack.specs.Proportional.{proportional}
use Rattle.task.specs.declared.job.Job.{Job}
use Rattle.theory.specs.Demand.{demand, demand_quick, whole}
use Rattle.theory.specs.Pattern.{Pattern, WellFormed}
use Rattle.theory.proofs.Quick.{demand_is_quick}
use Rattle.theory.proofs.Settles.{demand_settles}
use Rattle.window.specs.Greatest.{greatest}
use Rattle.worked.specs.Cases.{after, alone, Complete, Order, Gets, whole as whole_engines, Writes}
use Rattle.worked.proofs.Known.{asks, asks_formed, is_part, plan_asks, span_of}
use Rattle.worked.proofs.Loading.{Nowhere, numbers_told, refused_by_10, told}
use Rattle.worked.proofs.Parts.{choices_alone, has_alone, parts_alone, pattern_of, window}
use Rattle.worked.proofs.Single.{asked_alone, none_there, seated}

some_times : (m t : ℕ) → 14400 ≡ m * t → 1 ≤ m
some_times zero t is = omega arith
some_times (suc m) t is = omega arith

product_some : (m w : ℕ) → 1 ≤ m → 1 ≤ w → 1 ≤ m * w
product_some zero w some work = omega arith
product_some (suc m) w some work = omega arith

-- what asks for a tick in each arrival asks for one in a belt cycle
asks_some : (p : Pattern) → WellFormed p → 14400 % p.period ≡ 0 → 1 ≤ whole p → 1 ≤ demand p 14400
asks_some p formed divides some =
    let m = 14400 / p.period in
    let times : 14400 ≡ m * p.period = omega (arith, div-add-mod 14400 p.period, mul_comm p.period m, divides) in
    omega (arith, (demand_settles p formed m).at_least, ap (demand p) times, product_some m (whole p) (some_times m p.period times) some)

-- one tick, at whatever time it is due
one_tick : ℕ → Position
one_tick d = record { deadline = d; span = 1; depth = 1; head = 1; tail = 0; level = 1 }

abbrev tick : ℕ → ℕ → ℕ → Pattern
tick t d due = pattern_of t d ((window 0 due 1 ∷ []) ∷ [])

asks_tick : (t d : ℕ) → asks proportional t d (alone 1) 0 0 ≡ tick t d (proportional (one_tick d))
unfolding after alone one_tick each rising falling some_below greatest
asks_tick t d = refl

span_tick : span_of (alone 1) 0 ≡ 1
unfolding after alone each rising falling some_below greatest
span_tick = refl

tick_asked : (t d due : ℕ) → WellFormed (tick t d due) → 1 ≤ whole (tick t d due)
tick_asked t d due formed =
    let closes = formed.windows.0.0.closes in
    rw (le-leb due d closes) (omega arith)

-- the job that takes every tick
all_ticks : Pattern
all_ticks = pattern_of 100 100 ((window 0 100 100 ∷ []) ∷ [])

asks_all : asks proportional 100 100 (alone 100) 0 0 ≡ all_ticks
unfolding after alone all_ticks each rising falling some_below greatest
asks_all = refl

all_asked : demand_quick all_ticks 14400 ≡ 14400
unfolding all_ticks
all_asked = refl

period_divides : (j : Job) → 14400 % j.period ≡ 0
period_divides j = eqb-true (14400 % j.period) 0 (and_parts (leb 1 j.period) (eqb (14400 % j.period) 0) j.periodic).1

some_deadline : (j : Job) → 1 ≤ j.deadline
some_deadline j = leb-true 1 j.deadline (and_parts (leb 1 j.deadline) (leb j.deadline j.period) j.due).0

only_engine : (e g : ℕ) → tag_of (0 ∷ []) e ≡ Some g → e ≡ 0
only_engine zero g at = refl
only_engine (suc e) g at = absurd (none-some g at)

module _ (order : Order) (complete : Complete order) (text : List ℕ) (n : ℕ) (writes : Writes text n 100 100 (alone 100)) (r : Resident) (loaded : IsLoaded (whole_engines 1 order) [] text r) where
  its_choice : r.plan.choice ≡ 0
  its_choice =
      let low = loaded.places.is_choice in
      omega (arith, choices_alone 100, numbers_told (whole_engines 1 order) [] text n 100 100 (alone 100) writes r.plan.job loaded.comes.reads)

  its_number : number_of r ≡ n
  its_number = (told (whole_engines 1 order) [] text n 100 100 (alone 100) writes r.plan.job loaded.comes.reads).its_number

  asked_here : asked_on (r ∷ []) 0 ≡ all_ticks ∷ []
  asked_here =
      let is = told (whole_engines 1 order) [] text n 100 100 (alone 100) writes r.plan.job loaded.comes.reads in
      let sits = seated (whole_engines 1 order) text n 100 100 (alone 100) writes complete r loaded (ap (λ c. filter (is_part proportional 100 (alone 100) c) all_tags) its_choice ∙ parts_alone proportional 100 100) in
      let its_asks = plan_asks n 100 100 (alone 100) r.plan.job is proportional r.plan.choice r.plan loaded.places.placed.planned 0 in
      asked_alone r sits.seat 0 sits.alone sits.tag (only_engine sits.seat.engine 0 sits.there)
      ∙ ap (λ (p : Pattern). p ∷ []) (its_asks ∙ ap (λ c. asks proportional 100 100 (alone 100) c 0) its_choice ∙ asks_all)

  all_formed : WellFormed all_ticks
  all_formed =
      let is = told (whole_engines 1 order) [] text n 100 100 (alone 100) writes r.plan.job loaded.comes.reads in
      let formed = asks_formed n 100 100 (alone 100) r.plan.job is proportional r.plan.choice r.plan loaded.places.placed.planned 0 in
      subst WellFormed (ap (λ c. asks proportional 100 100 (alone 100) c 0) its_choice ∙ asks_all) formed

  module _ (later : Order) (complete_later : Complete later) (more : List ℕ) (m t d : ℕ) (other : Writes more m t d (alone 1)) (differ : n ≢ m) where
    free : Free (r ∷ []) m
    free = All-cons _ r [] (λ e. differ (sym its_number ∙ e)) (none_there m)

    unfit : WellFormed (asks proportional t d (alone 1) 0 0) → Fits (whole_supply 1 0) (asks proportional t d (alone 1) 0 0 ∷ asked_on (r ∷ []) 0) → ⊥
    unfit formed fits =
        let p = tick t d (proportional (one_tick d)) in
        let p-formed : WellFormed p = subst WellFormed (asks_tick t d) formed in
        let divides : 14400 % p.period ≡ 0 = subst (λ (x : ℕ). 14400 % x ≡ 0) other.made.its_period (period_divides other.job) in
        let some = asks_some p p-formed divides (tick_asked t d (proportional (one_tick d)) p-formed) in
        let both : Fits (whole_supply 1 0) (p ∷ all_ticks ∷ []) =
        subst (λ (ps : List Pattern). Fits (whole_supply 1 0) (p ∷ ps)) asked_here
        (subst (λ (q : Pattern). Fits (whole_supply 1 0) (q ∷ asked_on (r ∷ []) 0)) (asks_tick t d) fits) in
        omega (
          arith,
          both 14400,
          sum_by-cons (λ (q : Pattern). demand q 14400) p (all_ticks ∷ []),
          sum_by-cons (λ (q : Pattern). demand q 14400) all_ticks [],
          (demand_is_quick all_ticks all_formed).1 14400,
          all_asked,
          some,
        )

    pub no_tick_left : Gets (whole_engines 1 later) (r ∷ []) more 10
    no_tick_left =
        refused_by_10 (whole_engines 1 later) (r ∷ []) more m t d (alone 1) other free (omega arith) complete_later 0 (omega (arith, choices_alone 1))
        (omega (arith, span_tick, some_deadline other.job, other.made.its_deadline)) (λ c low _.
        let at : 0 ≡ c = omega (arith, choices_alone 1) in
        subst (Nowhere (whole_engines 1 later) (r ∷ []) more m t d (alone 1) other) at (record {
          tag = 0;
          few = omega arith;
          has = has_alone proportional d 1;
          unfit = λ formed (e, there, fits).
              unfit formed (subst (λ (x : ℕ). Fits (whole_supply 1 x) (asks proportional t d (alone 1) 0 0 ∷ asked_on (r ∷ []) x)) (only_engine e 0 there) fits);
        }))
