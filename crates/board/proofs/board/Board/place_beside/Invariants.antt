use Rattle.std.proofs.Common.{◌≡◌, ℕ, ◌<◌, map, take, filter, length}
use Rattle.std.specs.List.{All}
use Rattle.board.specs.Placing.{CannotBePlaced, RoomsOn, Rules, Sits, tried}
use Rattle.board.proofs.Steps.{NoneBefore}
use Rattle.board.specs.Residents.{jobs}
use Rattle.few.specs.Few.{items}
use Rattle.plan.specs.Pattern.{part_pattern}
use Rattle.resident.specs.Seats.{Fair, all_tags, has_part}
use Rattle.board.proofs.board.Board.place_beside.Given as goal

abbrev pub invariant-loop-place : goal.invariant-loop-place
invariant-loop-place g l =
    let rules : Rules = record {
      tags = g.P.Roster.tags l.self.platform;
      supply = g.P.Supply.supply l.self.platform;
      local = g.R.SlackRule.local l.self.rule;
      listing = g.O.EngineOrder.listing l.self.order;
    } in
    record {
      kept : items l.seats ≡ items l.initial.seats;
      before : NoneBefore rules (jobs l.self.residents) (part_pattern l.plan l.tag) (tried rules (jobs l.self.residents) l.tag) l.place;
      rooms : RoomsOn rules.supply (jobs l.self.residents) l.rooms;
      long : length l.rooms ≡ length l.fn.rooms;
    }

abbrev pub invariant-tags : goal.invariant-tags
invariant-tags g l =
    let rules : Rules = record {
      tags = g.P.Roster.tags l.self.platform;
      supply = g.P.Supply.supply l.self.platform;
      local = g.R.SlackRule.local l.self.rule;
      listing = g.O.EngineOrder.listing l.self.order;
    } in
    record {
      tags : map (λ s. s.tag) (items l.seats) ≡ filter (λ t. has_part l.plan t) (take l.tag all_tags);
      fair : All (Fair l.plan) (items l.seats);
      sits : All (Sits rules (jobs l.self.residents) l.plan) (items l.seats);
      rooms : RoomsOn rules.supply (jobs l.self.residents) l.rooms;
      long : length l.rooms ≡ length l.fn.rooms;
    }

abbrev pub invariant-choices : goal.invariant-choices
invariant-choices g l =
    let rules : Rules = record {
      tags = g.P.Roster.tags l.self.platform;
      supply = g.P.Supply.supply l.self.platform;
      local = g.R.SlackRule.local l.self.rule;
      listing = g.O.EngineOrder.listing l.self.order;
    } in
    record {
      before : (c : ℕ) → c < l.choice → CannotBePlaced rules (jobs l.self.residents) l.job c;
      rooms : RoomsOn rules.supply (jobs l.self.residents) l.rooms;
      long : length l.rooms ≡ length l.fn.rooms;
    }
