-- What holds of the residents of a board whenever it is asked.
--   WellSeated tags local r           each part of the resident r sits on an engine of its tag, and its plan is that of its job under a possible choice
--   PlacedOn tags supply local rs     each of the residents rs is well seated, their numbers differ, what they ask of an engine fits there, and there are at most 16
--   Placed rules rs                   the same, by these rules; the order of engines plays no part in it
use Rattle.std.specs.Prelude.{◌≡◌, ℕ, ◌≤◌, ◌<◌, List, length, Some}
use Rattle.std.specs.List.{AllByRecursion}
use Rattle.board.specs.Asked.{asked_on}
use Rattle.board.specs.Placing.{Rules}
use Rattle.engine.specs.Roster.{tag_of}
use Rattle.few.specs.Few.{items}
use Rattle.fit.specs.Fits.{Fits}
use Rattle.plan.specs.Plan.{IsPlan, nodes_of}
use Rattle.resident.specs.declared.resident.Resident.{Resident}
use Rattle.resident.specs.declared.resident.Seat.{Seat}
use Rattle.resident.specs.Resident.{number_of}
use Rattle.runs.specs.Job.{Apart}
use Rattle.slack.specs.declared.rule.Position.{Position}
use Rattle.task.specs.declared.node.Numbering.TheVariants.{Choice}
use Rattle.task.specs.Picks.{numbers}
use Rattle.window.specs.Path.{Possible}

pub record WellSeated (tags : List ℕ) (local : Position → ℕ) (r : Resident) : Type 0 where
  pub seats : AllByRecursion (λ (s : Seat). tag_of tags s.engine ≡ Some s.tag) (items r.seats)
  pub is_choice : r.plan.choice < numbers Choice (nodes_of r.plan)
  pub possible : Possible (nodes_of r.plan) r.plan.choice r.plan.job.deadline
  pub planned : IsPlan local r.plan.job r.plan.choice r.plan

pub record PlacedOn (tags : List ℕ) (supply : ℕ → ℕ → ℕ) (local : Position → ℕ) (rs : List Resident) : Type 0 where
  pub each : AllByRecursion (WellSeated tags local) rs
  pub numbers_differ : Apart number_of rs
  pub fit : (e : ℕ) → Fits (supply e) (asked_on rs e)
  pub few : length rs ≤ 16

abbrev pub Placed : Rules → List Resident → Type 0
Placed rules rs = PlacedOn rules.tags rules.supply rules.local rs
