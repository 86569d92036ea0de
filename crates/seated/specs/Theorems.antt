-- The theorems of runs on a board.
--   Stays rules               a board without residents is placed, and it stays so when a job is loaded or unloaded
--   StaysPlaced               so it does by all lawful rules
--   NeverLateOnBoard          where the residents are placed and the engines are served at least their supply, everything is on time after every event, and what is ready waits for nothing
--   Refuses rules rs text     a job that cannot be placed could be late under every possible choice, wherever its parts are put; a job that is loaded could not
--   RefusedExactly            so it is by all lawful rules, where the residents are placed
use Rattle.std.specs.Prelude.{ℕ, not, ◌==◌, List, [], filter, length, take}
use Rattle.board.specs.declared.refusal.Refusal.TheVariants.{NoPlacement}
use Rattle.board.specs.Loading.{IsLoaded, LoadRefused, Takes}
use Rattle.board.specs.Placing.{Rules}
use Rattle.resident.specs.declared.resident.Resident.{Resident}
use Rattle.resident.specs.Resident.{number_of}
use Rattle.runs.specs.Events.{Event, play, start}
use Rattle.runs.specs.Runs.{masks, OnTime, Supplied}
use Rattle.seated.specs.Jobs.{jobs_of}
use Rattle.seated.specs.Lasting.{Placed}
use Rattle.seated.specs.Placement.{LawfulRules, MustRefuse}
use Rattle.seated.specs.Waits.{InOrder}
use Rattle.task.specs.declared.job.Job.{Job}
use Rattle.text.specs.JobText.{Reads}

pub record Stays (rules : Rules) : Type 0 where
  pub empty : Placed rules []
  pub loaded : (rs : List Resident) (text : List ℕ) (n : ℕ) (after : List Resident) (listing : List (ℕ × ℕ) → List ℕ → ℕ → List ℕ → List ℕ)
      → Takes rules rs text n after listing → Placed rules rs → Placed rules after
  pub unloaded : (rs : List Resident) (n : ℕ) → Placed rules rs → Placed rules (filter (λ r. not (number_of r == n)) rs)

abbrev pub StaysPlaced : Type 0
StaysPlaced = (rules : Rules) → LawfulRules rules → Stays rules

abbrev pub NeverLateOnBoard : Type 0
NeverLateOnBoard =
    (rules : Rules) → LawfulRules rules → (rs : List Resident) → Placed rules rs
    → (events : List Event) → Supplied (length rules.tags) rules.supply (masks events)
    → (k : ℕ) → OnTime (play (start (jobs_of rs)) (take k events)) × InOrder rs (play (start (jobs_of rs)) (take k events))

pub record Refuses (rules : Rules) (rs : List Resident) (text : List ℕ) : Type 0 where
  pub rightly : LoadRefused rules rs text NoPlacement → (j : Job) → Reads text j → MustRefuse rules rs j
  pub only : (r : Resident) → IsLoaded rules rs text r → MustRefuse rules rs r.plan.job → ⊥

abbrev pub RefusedExactly : Type 0
RefusedExactly = (rules : Rules) → LawfulRules rules → (rs : List Resident) → Placed rules rs → (text : List ℕ) → Refuses rules rs text
