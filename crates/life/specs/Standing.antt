-- How a board stands between two calls.
--   Listing                  the engines that an order lists, after tellings, for a roster, a tag and loads
--   Standing                 a board that does not run has residents and an order; one that runs also has the arrivals and ticks since its start, the first one first
--   state_of rs events       the state of a run of the residents rs after these events
--   total_of s               the late total of a board that runs
--   at rules l               the rules, where the order lists by l
use Rattle.std.specs.Prelude.{ℕ, List, Option, Some, None}
use Rattle.board.specs.Placing.{Rules}
use Rattle.resident.specs.declared.resident.Resident.{Resident}
use Rattle.runs.specs.Events.{Event, play, start}
use Rattle.runs.specs.State.{State}
use Rattle.seated.specs.Jobs.{jobs_of}

abbrev pub Listing : Type 0
Listing = List (ℕ × ℕ) → List ℕ → ℕ → List ℕ → List ℕ

pub data Standing : Type 0 where
  stopped : List Resident → Listing → Standing
  running : List Resident → Listing → List Event → Standing

abbrev pub state_of : List Resident → List Event → State
state_of rs events = play (start (jobs_of rs)) events

abbrev pub total_of : Standing → Option ℕ
total_of (stopped rs l) = None
total_of (running rs l events) = Some (state_of rs events).lates

abbrev pub at : Rules → Listing → Rules
at rules l = record rules { listing = l }
