-- A board begins with residents that are placed, and they stay so when a job is loaded or unloaded.
use Rattle.std.proofs.Common.{◌≡◌, ◌≢◌, ℕ, ◌≤◌, Bool, not, nat_eq, List, [], ◌∷◌, ◌++◌, map, filter, Some, sym, ap, subst, length-append, arith}
use Rattle.std.proofs.lemmas.List.Elements.{recursion_from_All}
use Rattle.board.specs.Asked.{asked_on, loads}
use Rattle.board.specs.Loading.{IsLoaded, Takes}
use Rattle.board.specs.Placing.{Rules, Sits, tried}
use Rattle.board.proofs.Listed.{is_tagged}
use Rattle.engine.specs.Roster.{tag_of}
use Rattle.few.specs.Few.{items}
use Rattle.fit.specs.Fits.{Fits}
use Rattle.plan.specs.Pattern.{part_pattern}
use Rattle.resident.specs.declared.resident.Resident.{Resident}
use Rattle.resident.specs.declared.resident.Seat.{Seat}
use Rattle.resident.specs.Resident.{number_of}
use Rattle.runs.proofs.Lists.{all_append, all_mem, all_weaker}
use Rattle.seated.specs.Lasting.{Placed, WellSeated}
use Rattle.seated.specs.Placement.{LawfulRules}
use Rattle.seated.proofs.Asking.{asked_less, asked_more, demand_cons, demand_one}
use Rattle.seated.proofs.Lists.{all_filter, apart_filter, apart_push, filter_length}
use Rattle.seated.proofs.Seats.{none, one, OnEngine, seats_of}
use Rattle.theory.specs.Demand.{demand_of_all}

pub placed_none : (rules : Rules) → Placed rules []
placed_none rules = record { each = tt; numbers_differ = tt; fit = λ e n. omega arith; few = omega arith }

module _ (rules : Rules) (lawful : LawfulRules rules) (rs : List Resident) (text : List ℕ) where
  -- the parts of a job that is loaded sit on engines of their tags
  pub loaded_seated : (r : Resident) → IsLoaded rules rs text r → WellSeated rules.tags rules.local r
  loaded_seated r loaded = record {
    seats = all_weaker (Sits rules rs r.plan) (λ (s : Seat). tag_of rules.tags s.engine ≡ Some s.tag)
        (λ s sits. is_tagged rules.tags s.tag (tried rules rs s.tag) (lawful.complete [] s.tag (loads rs)) s.engine sits.place sits.there)
        (items r.seats) (recursion_from_All (Sits rules rs r.plan) (items r.seats) loaded.places.placed.sits);
    is_choice = loaded.places.is_choice;
    possible = loaded.places.possible;
    planned = loaded.places.placed.planned;
  }

  -- and fit there beside the residents
  loaded_fits : Placed rules rs → (r : Resident) → IsLoaded rules rs text r → (e : ℕ) → Fits (rules.supply e) (asked_on (rs ++ r ∷ []) e)
  loaded_fits placed r loaded e n = go (seats_of r rules.tags (loaded_seated r loaded).seats e)
    where
      go : OnEngine e (items r.seats) → demand_of_all (asked_on (rs ++ r ∷ []) e) n ≤ rules.supply e n
      go (none z away) = omega (arith, asked_more rs r e n, ap (λ ss. demand_of_all (map (λ (s : Seat). part_pattern r.plan s.tag) ss) n) z, placed.fit e n)
      go (one s is here m) =
          let sits = all_mem (Sits rules rs r.plan) (items r.seats) s m (recursion_from_All (Sits rules rs r.plan) (items r.seats) loaded.places.placed.sits) in
          let fits = subst (λ (d : ℕ). Fits (rules.supply d) (part_pattern r.plan s.tag ∷ asked_on rs d)) here sits.fits in
          omega (
            arith,
            asked_more rs r e n,
            ap (λ ss. demand_of_all (map (λ (s : Seat). part_pattern r.plan s.tag) ss) n) is,
            demand_one (part_pattern r.plan s.tag) n,
            demand_cons (part_pattern r.plan s.tag) (asked_on rs e) n,
            fits n,
          )

  pub loaded_lasts : Placed rules rs → (r : Resident) → IsLoaded rules rs text r → Placed rules (rs ++ r ∷ [])
  loaded_lasts placed r loaded = record {
    each = all_append (WellSeated rules.tags rules.local) rs (r ∷ []) placed.each (loaded_seated r loaded, tt);
    numbers_differ = apart_push number_of rs r placed.numbers_differ (recursion_from_All (λ q. number_of q ≢ number_of r) rs loaded.comes.free);
    fit = loaded_fits placed r loaded;
    few = omega (arith, length-append rs (r ∷ []), loaded.comes.room);
  }

  -- a job that is taken keeps them placed
  pub takes_lasts : (n : ℕ) (after : List Resident) (listing : List (ℕ × ℕ) → List ℕ → ℕ → List ℕ → List ℕ) → Takes rules rs text n after listing → Placed rules rs → Placed rules after
  takes_lasts n after listing takes placed = subst (Placed rules) (sym takes.gained) (loaded_lasts placed takes.job takes.loaded)

-- those that stay are placed
pub kept_lasts : (rules : Rules) (rs : List Resident) (p : Resident → Bool) → Placed rules rs → Placed rules (filter p rs)
kept_lasts rules rs p placed = record {
  each = all_filter (WellSeated rules.tags rules.local) p rs placed.each;
  numbers_differ = apart_filter number_of p rs placed.numbers_differ;
  fit = λ e n. omega (arith, asked_less p rs e n, placed.fit e n);
  few = omega (arith, filter_length p rs, placed.few);
}

pub unloaded_lasts : (rules : Rules) (rs : List Resident) (n : ℕ) → Placed rules rs → Placed rules (filter (λ r. not (nat_eq (number_of r) n)) rs)
unloaded_lasts rules rs n placed = kept_lasts rules rs (λ r. not (nat_eq (number_of r) n)) placed
