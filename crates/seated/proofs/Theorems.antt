-- The theorems of runs on a board.
use Rattle.std.proofs.Common.{ℕ, ◌≤◌, List, length}
use Rattle.board.specs.Placing.{Rules}
use Rattle.engine.specs.Supply.{Lawful, NoneServed}
use Rattle.order.specs.Listing.{EachOnce}
use Rattle.seated.specs.Placement.{LawfulRules}
use Rattle.seated.specs.Theorems.{NeverLateOnBoard, RefusedExactly, StaysPlaced}
use Rattle.seated.proofs.Lasting.{placed_none, takes_lasts, unloaded_lasts}
use Rattle.seated.proofs.Refused.{refused_only, refused_rightly}
use Rattle.seated.proofs.Timely.{on_time_and_in_order}
use Rattle.slack.specs.Rule.{Lawful as LawfulSlack}

-- the laws of a platform, a slack rule and an engine order, as their traits state them
pub lawful_rules : (rules : Rules) (cycle quota : ℕ → ℕ) → ((e : ℕ) → Lawful (rules.supply e) (cycle e) (quota e))
    → ((e : ℕ) → length rules.tags ≤ e → NoneServed (rules.supply e) (cycle e) (quota e)) → LawfulSlack rules.local
    → ((told : List (ℕ × ℕ)) (tags : List ℕ) (g : ℕ) (loads : List ℕ) → EachOnce tags g (rules.listing told tags g loads)) → LawfulRules rules
lawful_rules rules cycle quota laws missing slack complete = record {
  supply = λ e. record { none = (laws e).none; grows = (laws e).grows; by_one = (laws e).by_one; joins = (laws e).joins };
  missing = λ e n past. (missing e past).idle n;
  slack = slack;
  complete = λ told. complete told rules.tags;
}

pub stays_placed : StaysPlaced
stays_placed rules lawful = record {
  empty = placed_none rules;
  loaded = λ rs text n after listing takes placed. takes_lasts rules lawful rs text n after listing takes placed;
  unloaded = unloaded_lasts rules;
}

pub never_late_on_board : NeverLateOnBoard
never_late_on_board rules lawful rs placed events supplied k = on_time_and_in_order rules lawful rs placed events supplied k

pub refused_exactly : RefusedExactly
refused_exactly rules lawful rs placed text = record { rightly = refused_rightly rules lawful rs placed text; only = refused_only rules lawful rs placed text }
