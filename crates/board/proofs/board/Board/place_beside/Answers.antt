use Rattle.std.proofs.Common.{rules, ◌≡◌, ℕ, Bool, cond, min, slice_index, [], ◌∷◌, ◌++◌, map, length, sym, ap, subst, ◌∙◌, arith}
use Rattle.std.specs.Prelude.{slice_get, is_some}
use Rattle.std.specs.List.{All}
use Rattle.std.proofs.lemmas.List.{map-append}
use Rattle.board.specs.Placing.{Rules, Sits, tried}
use Rattle.board.specs.Asked.{loads}
use Rattle.board.proofs.Listed.{listed_low}
use Rattle.board.proofs.Stating.{fits_paced, part_states}
use Rattle.board.proofs.Steps.{all_push, ended_nowhere, next_below, none_next, past_nowhere, seats_room, some_is, tag_put, tag_skip}
use Rattle.board.specs.Residents.{jobs}
use Rattle.few.specs.Few.{items}
use Rattle.plan.specs.Part.{part_of}
use Rattle.plan.specs.Pattern.{part_pattern}
use Rattle.resident.specs.declared.resident.Seat.{Seat}
use Rattle.resident.specs.Seats.{Fair}
use Rattle.plan.specs.Plan.{IsPlan}
use Rattle.task.specs.Flaws.{graph}
use Rattle.window.specs.Path.{Possible}
use Rattle.board.proofs.board.Board.place_beside.Goals as goal

pub choices-preserved-in_default : goal.choices-preserved-in_default
choices-preserved-in_default g c = record {
  before = next_below _ c.choices.choice c.choices.invariant.before (λ possible. absurd (c.in_default.ensures possible));
  rooms = c.choices.invariant.rooms;
  long = c.choices.invariant.long;
}

pub choices-preserved-then-is_stuck : goal.choices-preserved-then-is_stuck
choices-preserved-then-is_stuck g c =
    let me = c.args.self.now in
    let rs = jobs me.residents in
    let plan = c.in-Some.plan in
    let stuck = c.is_stuck.ensures.0 c.if-is_stuck.true in
    record {
      before = next_below _ c.choices.choice c.choices.invariant.before (λ possible. record {
        plan = plan;
        planned = c.in-Some.ensures.1;
        tag = stuck.tag;
        has = stuck.has;
        nowhere = λ e is fits. let n = min (slice_index c.choices.short e) 28800 in omega (arith, stuck.short e is, fits n);
      });
      rooms = c.choices.invariant.rooms;
      long = c.choices.invariant.long;
    }

pub tags-preserved-in_default-of : goal.tags-preserved-in_default-of
tags-preserved-in_default-of g c =
    let inv = c.tags.invariant in
    record {
      tags = inv.tags ∙ sym (tag_skip c.in-Some.plan c.tags.tag c.tags-test.true c.in_default-of.ensures);
      fair = inv.fair;
      sits = inv.sits;
      rooms = inv.rooms;
      long = inv.long;
    }

pub choices-preserved-in_default-place : goal.choices-preserved-in_default-place
choices-preserved-in_default-place g c =
    let me = c.args.self.now in
    let rs = jobs me.residents in
    let ruled : Rules = record {
      tags = g.P.Roster.tags me.platform;
      supply = g.P.Supply.supply me.platform;
      local = g.R.SlackRule.local me.rule;
      listing = g.O.EngineOrder.listing me.order;
    } in
    let plan = c.in-Some.plan in
    let tag = c.tags.tag in
    let place = c.loop-place.place in
    let inv = c.loop-place.invariant in
    let ended = ap (λ l. slice_get (ruled.listing [] ruled.tags tag l) place) (sym c.loads-loads.ensures) ∙ sym c.place.ensures ∙ c.in_default-place.is in
    record {
      before = next_below _ c.choices.choice c.choices.invariant.before (λ possible. record {
        plan = plan;
        planned = c.in-Some.ensures.1;
        tag = tag;
        has = some_is (part_of plan tag) c.in-Some-of.ensures.0;
        nowhere = ended_nowhere ruled rs (part_pattern plan tag) tag (tried ruled rs tag) (g.O.EngineOrder.complete me.order [] ruled.tags tag (loads rs)) place inv.before ended;
      });
      rooms = inv.rooms;
      long = inv.long;
    }

pub bounds-short-engine : goal.bounds-short-engine
bounds-short-engine g c =
    let tags = g.P.Roster.tags c.args.self.now.platform in
    listed_low tags c.tags.tag _ (g.P.Roster.rostered c.args.self.now.platform) (g.O.EngineOrder.complete c.args.self.now.order [] tags c.tags.tag c.loads-loads.result) c.loop-place.place c.in-Some-place.engine (sym c.place.ensures ∙ c.in-Some-place.is)

pub offset_bounds-short-engine : goal.offset_bounds-short-engine
offset_bounds-short-engine g c =
    let tags = g.P.Roster.tags c.args.self.now.platform in
    let low = listed_low tags c.tags.tag _ (g.P.Roster.rostered c.args.self.now.platform) (g.O.EngineOrder.complete c.args.self.now.order [] tags c.tags.tag c.loads-loads.result) c.loop-place.place c.in-Some-place.engine (sym c.place.ensures ∙ c.in-Some-place.is) in
    omega (arith, low)

pub returns-in_err-ticks-clause-settled : goal.returns-in_err-ticks-clause-settled
returns-in_err-ticks-clause-settled g c = λ roomy.
    let tags = g.P.Roster.tags c.args.self.now.platform in
    let low = listed_low tags c.tags.tag _ (g.P.Roster.rostered c.args.self.now.platform) (g.O.EngineOrder.complete c.args.self.now.order [] tags c.tags.tag c.loads-loads.result) c.loop-place.place c.in-Some-place.engine (sym c.place.ensures ∙ c.in-Some-place.is) in
    let settled = c.in_err-ticks.ensures.settled (omega (arith, low, roomy, c.loop-place.invariant.long)) in
    absurd (let z : ◌≡◌ {A = ℕ} 0 1 = ap (λ (b : Bool). cond b 1 0) settled in omega arith)

pub unwrap-requires : goal.unwrap-requires
unwrap-requires g c =
    c.push.ensures.room.1 (omega (
      arith,
      seats_room c.in-Some.plan c.tags.tag c.tags-test.true (items c.tags.seats) c.tags.invariant.tags,
      ap length c.loop-place.invariant.kept,
    ))

pub tags-preserved : goal.tags-preserved
tags-preserved g c =
    let me = c.args.self.now in
    let rs = jobs me.residents in
    let ruled : Rules = record {
      tags = g.P.Roster.tags me.platform;
      supply = g.P.Supply.supply me.platform;
      local = g.R.SlackRule.local me.rule;
      listing = g.O.EngineOrder.listing me.order;
    } in
    let plan = c.in-Some.plan in
    let tag = c.tags.tag in
    let p = part_pattern plan tag in
    let claim = c.in-Some-of.claim in
    let e = c.in-Some-place.engine in
    let place = c.loop-place.place in
    let was = items c.tags.seats in
    let inv = c.tags.invariant in
    let states = part_states plan tag claim c.in-Some-of.ensures.1 in
    let low = listed_low ruled.tags tag (ruled.listing [] ruled.tags tag c.loads-loads.result) (g.P.Roster.rostered me.platform) (g.O.EngineOrder.complete me.order [] ruled.tags tag c.loads-loads.result) place e (sym c.place.ensures ∙ c.in-Some-place.is) in
    let seat : Seat = record { tag = tag; engine = e; claim = claim } in
    let pushed : items c.push.new.self ≡ items c.loop-place.seats ++ seat ∷ [] = search rules in
    let put : items c.push.new.self ≡ was ++ seat ∷ [] = pushed ∙ ap (λ ss. ss ++ seat ∷ []) c.loop-place.invariant.kept in
    let has = some_is (part_of plan tag) c.in-Some-of.ensures.0 in
    let fits = (c.in_ok-ticks.ensures.fits p states).0 (ap is_some c.in_default-2.is) in
    let there = ap (λ l. slice_get (ruled.listing [] ruled.tags tag l) place) (sym c.loads-loads.ensures) ∙ sym c.place.ensures ∙ c.in-Some-place.is in
    record {
      tags = ap (map (λ (s : Seat). s.tag)) put ∙ map-append (λ (s : Seat). s.tag) was (seat ∷ []) ∙ ap (λ ts. ts ++ tag ∷ []) inv.tags ∙ sym (tag_put plan tag c.tags-test.true has);
      fair = subst (All (Fair plan)) (sym put) (all_push (Fair plan) was seat inv.fair (record {
        claims = c.in-Some-of.ensures.1;
        paced = fits_paced (ruled.supply e) _ _ (g.P.Supply.laws me.platform e) rs e p claim states fits;
        placed = low;
      }));
      sits = subst (All (Sits ruled rs plan)) (sym put) (all_push (Sits ruled rs plan) was seat inv.sits (record {
        place = place;
        there = there;
        fits = fits;
        none_before = c.loop-place.invariant.before;
      }));
      rooms = c.in_ok-ticks.ensures.rooms;
      long = c.in_ok-ticks.ensures.long ∙ c.loop-place.invariant.long;
    }

pub bounds-short-engine-in-loop-place : goal.bounds-short-engine-in-loop-place
bounds-short-engine-in-loop-place g c =
    let tags = g.P.Roster.tags c.args.self.now.platform in
    listed_low tags c.tags.tag _ (g.P.Roster.rostered c.args.self.now.platform) (g.O.EngineOrder.complete c.args.self.now.order [] tags c.tags.tag c.loads-loads.result) c.loop-place.place c.in-Some-place.engine (sym c.place.ensures ∙ c.in-Some-place.is)

pub offset_bounds-short-engine-in-loop-place : goal.offset_bounds-short-engine-in-loop-place
offset_bounds-short-engine-in-loop-place g c =
    let tags = g.P.Roster.tags c.args.self.now.platform in
    let low = listed_low tags c.tags.tag _ (g.P.Roster.rostered c.args.self.now.platform) (g.O.EngineOrder.complete c.args.self.now.order [] tags c.tags.tag c.loads-loads.result) c.loop-place.place c.in-Some-place.engine (sym c.place.ensures ∙ c.in-Some-place.is) in
    omega (arith, low)

pub loop-place-preserved : goal.loop-place-preserved
loop-place-preserved g c =
    let me = c.args.self.now in
    let rs = jobs me.residents in
    let ruled : Rules = record {
      tags = g.P.Roster.tags me.platform;
      supply = g.P.Supply.supply me.platform;
      local = g.R.SlackRule.local me.rule;
      listing = g.O.EngineOrder.listing me.order;
    } in
    let plan = c.in-Some.plan in
    let tag = c.tags.tag in
    let p = part_pattern plan tag in
    let states = part_states plan tag c.in-Some-of.claim c.in-Some-of.ensures.1 in
    let place = c.loop-place.place in
    let inv = c.loop-place.invariant in
    let here = ap (λ l. slice_get (ruled.listing [] ruled.tags tag l) place) (sym c.loads-loads.ensures) ∙ sym c.place.ensures ∙ c.in-Some-place.is in
    record {
      kept = inv.kept;
      before = none_next ruled rs p (tried ruled rs tag) place inv.before c.in-Some-place.engine here (λ fits.
          let none = (c.in_ok-ticks.ensures.fits p states).1 fits in
          let z : ◌≡◌ {A = ℕ} 1 0 = ap (λ (b : Bool). cond b 1 0) (sym (ap is_some c.in-Some-2.is) ∙ none) in
          omega arith);
      rooms = c.in_ok-ticks.ensures.rooms;
      long = c.in_ok-ticks.ensures.long ∙ inv.long;
    }

pub choices-preserved : goal.choices-preserved
choices-preserved g c =
    let me = c.args.self.now in
    let rs = jobs me.residents in
    let ruled : Rules = record {
      tags = g.P.Roster.tags me.platform;
      supply = g.P.Supply.supply me.platform;
      local = g.R.SlackRule.local me.rule;
      listing = g.O.EngineOrder.listing me.order;
    } in
    let plan = c.in-Some.plan in
    let tag = c.tags.tag in
    let inv = c.loop-place.invariant in
    record {
      before = next_below _ c.choices.choice c.choices.invariant.before (λ possible. record {
        plan = plan;
        planned = c.in-Some.ensures.1;
        tag = tag;
        has = some_is (part_of plan tag) c.in-Some-of.ensures.0;
        nowhere = past_nowhere ruled rs (part_pattern plan tag) tag (tried ruled rs tag) (g.O.EngineOrder.complete me.order [] ruled.tags tag (loads rs)) c.loop-place.place inv.before (g.P.Roster.rostered me.platform) (omega (arith, c.loop-place-test.false, c.loop-place.auto.place-end));
      });
      rooms = inv.rooms;
      long = inv.long;
    }

pub returns-in-choices-clause-placed : goal.returns-in-choices-clause-placed
returns-in-choices-clause-placed g c =
    let j = c.args.job.now in
    let plan = c.in-Some.plan in
    let is = c.in-Some.ensures.1.its_choice in
    record {
      is_choice = omega (arith, is, c.choices-test.true, c.choices-choice-end.ensures);
      possible = subst (λ (n : ℕ). Possible (graph j) n j.deadline) (sym is) c.in-Some.ensures.0;
      placed = record {
        planned = subst (λ (n : ℕ). IsPlan (g.R.SlackRule.local c.args.self.now.rule) j n plan) (sym is) c.in-Some.ensures.1;
        sits = c.tags.invariant.sits;
      };
      none_before = λ b low. c.choices.invariant.before b (omega (arith, is));
    }
