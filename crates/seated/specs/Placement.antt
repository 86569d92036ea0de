-- Placements of a job beside the residents of a board, and runs on them.
--   LawfulRules rules          the rules are those of a platform, a slack rule and an engine order that keep their laws
--   Placement tags p f         f gives each part of the plan p an engine of the part's tag
--   LateRun rules jobs         the jobs have a run, legal and all granted, in which something is late
--   MustRefuse rules rs j      under every possible choice of the job j, every placement beside the residents rs has a late run
use Rattle.std.specs.Prelude.{◌≡◌, ℕ, ◌<◌, ◌≤◌, true, List, [], ◌∷◌, ◌++◌, length, Some}
use Rattle.board.specs.Determined.{Complete}
use Rattle.board.specs.Placing.{Rules}
use Rattle.engine.specs.Roster.{tag_of}
use Rattle.plan.specs.declared.plan.Plan.{Plan}
use Rattle.plan.specs.Plan.{IsPlan}
use Rattle.resident.specs.declared.resident.Resident.{Resident}
use Rattle.resident.specs.Seats.{has_part}
use Rattle.runs.specs.Events.{Event, play, start}
use Rattle.runs.specs.Job.{Job}
use Rattle.runs.specs.Runs.{Lawful, Run}
use Rattle.seated.specs.Jobs.{job_at, jobs_of}
use Rattle.slack.specs.Rule.{Lawful as LawfulSlack}
use Rattle.task.specs.declared.job.Job.{Job as Declared}
use Rattle.task.specs.declared.node.Numbering.TheVariants.{Choice}
use Rattle.task.specs.Flaws.{graph}
use Rattle.task.specs.Picks.{numbers}
use Rattle.window.specs.Path.{Possible}

-- the laws of the traits `Supply`, `SlackRule` and `EngineOrder` give these (`lawful_rules` in `proofs/Theorems.antt`)
pub record LawfulRules (rules : Rules) : Type 0 where
  pub supply : (e : ℕ) → Lawful (rules.supply e)
  pub missing : (e n : ℕ) → length rules.tags ≤ e → rules.supply e n ≡ 0
  pub slack : LawfulSlack rules.local
  pub complete : Complete rules

abbrev pub Placement : List ℕ → Plan → (ℕ → ℕ) → Type 0
Placement tags p f = (g : ℕ) → has_part p g ≡ true → tag_of tags (f g) ≡ Some g

abbrev pub LateRun : Rules → List Job → Type 0
LateRun rules jobs = (events : List Event) × Run (length rules.tags) rules.supply jobs events × (1 ≤ (play (start jobs) events).lates)

abbrev pub MustRefuse : Rules → List Resident → Declared → Type 0
MustRefuse rules rs j = (c : ℕ) → c < numbers Choice (graph j) → Possible (graph j) c j.deadline
    → (p : Plan) (f : ℕ → ℕ) → IsPlan rules.local j c p → Placement rules.tags p f → LateRun rules (jobs_of rs ++ job_at p f ∷ [])
