-- A job under a choice.
--   nodes_of p            the nodes of its job
--   reached_rows p        for each branch number what an arrival with it reaches
--   IsPlan local j c p    p is the plan of the job j under the choice c, with the windows that the slack rule local gives
use Rattle.std.specs.Prelude.{◌≡◌, ℕ, ◌<◌, Bool, List, [], length, slice_index_or}
use Rattle.few.specs.Few.{items}
use Rattle.plan.specs.declared.plan.Plan.{Plan}
use Rattle.slack.specs.declared.rule.Position.{Position}
use Rattle.task.specs.declared.job.Job.{Job}
use Rattle.task.specs.declared.node.Node.{Node}
use Rattle.task.specs.declared.node.Numbering.TheVariants.{Branch}
use Rattle.task.specs.Concrete.{Member, Reached}
use Rattle.task.specs.Flaws.{graph}
use Rattle.task.specs.Picks.{numbers}
use Rattle.task.specs.Tables.{Tells}
use Rattle.window.specs.declared.layout.Lengths.{Lengths}
use Rattle.window.specs.Lengths.{IsLengths}
use Rattle.window.specs.Windows.{IsWindows}

abbrev pub nodes_of : Plan → List Node
nodes_of p = graph p.job

abbrev pub reached_rows : Plan → List (List Bool)
reached_rows p = items p.reached

pub record IsPlan (local : Position → ℕ) (j : Job) (c : ℕ) (p : Plan) : Type 0 where
  pub its_job : p.job ≡ j
  pub its_choice : p.choice ≡ c
  pub members : Tells (Member (graph j) c) p.members
  pub many : length (reached_rows p) ≡ numbers Branch (graph j)
  pub reached : (b : ℕ) → b < numbers Branch (graph j) → Tells (Reached (graph j) c b) (slice_index_or (reached_rows p) b [])
  pub lengths : Lengths
  pub measured : IsLengths (graph j) c lengths
  pub windows : IsWindows (graph j) c j.deadline local lengths p.windows
