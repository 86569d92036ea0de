-- What every plan of a job under a choice asks, computed.
--   task ns ws v                  the sub-task at the node v with the windows ws
--   tasks_below ns ws t n         those at the nodes below n that pass the test t, by rising node
--   tasks_of ns g ws t            the sub-tasks of the graph g that pass the test t, with the windows ws
--   tasks_by local ns d g t       the same with the windows of g, in a job with the deadline d
--   tasks local ns d c t          in a job with the nodes ns and the deadline d, under the choice c and the slack rule local: the sub-tasks of the concrete graph whose nodes pass the test t
--   pattern period d ns c ts      how the sub-tasks ts of such a job with the period ask for work
--   tasks_made local j c g        the part of the tag g of the job j under the choice c
--   pattern_for j c ts            how the sub-tasks ts of this job ask for work
--   pattern_made local j c g      how the part of the tag g asks for work
use Rattle.std.specs.Prelude.{ℕ, zero, suc, Bool, false, cond, ◌&&◌, List, [], ◌∷◌, ◌++◌, map, length, slice_index_or}
use Rattle.plan.specs.declared.part.Task.{Task}
use Rattle.plan.specs.Part.{tagged}
use Rattle.plan.specs.Pattern.{branch_of}
use Rattle.slack.specs.declared.rule.Position.{Position}
use Rattle.task.specs.declared.job.Job.{Job}
use Rattle.task.specs.declared.node.Node.{Node}
use Rattle.task.specs.declared.tables.Concrete.{Concrete}
use Rattle.task.specs.Flaws.{graph}
use Rattle.task.specs.Graph.{at}
use Rattle.task.specs.Node.{ticks}
use Rattle.theory.specs.Pattern.{Pattern}
use Rattle.window.specs.declared.layout.Window.{Window}
use Rattle.window.specs.Windows.{closed}
use Rattle.computed.specs.Graph.{concrete, reached}
use Rattle.computed.specs.Windows.{windows}

abbrev pub task : List Node → List Window → ℕ → Task
task ns ws v = record { node = v; window = slice_index_or ws v closed; ticks = ticks (at ns v) }

abbrev pub tasks_below : List Node → List Window → (ℕ → Bool) → ℕ → List Task
tasks_below ns ws t zero = []
tasks_below ns ws t (suc v) = tasks_below ns ws t v ++ cond (t v) (task ns ws v ∷ []) []

abbrev pub tasks_of : List Node → Concrete → List Window → (Node → Bool) → List Task
tasks_of ns g ws t = tasks_below ns ws (λ v. slice_index_or g.members v false && t (at ns v)) (length ns)

abbrev pub tasks_by : (Position → ℕ) → List Node → ℕ → Concrete → (Node → Bool) → List Task
tasks_by local ns d g t = tasks_of ns g (windows local ns d g) t

abbrev pub tasks : (Position → ℕ) → List Node → ℕ → ℕ → (Node → Bool) → List Task
tasks local ns d c t = tasks_by local ns d (concrete ns c) t

abbrev pub pattern : (period deadline : ℕ) → List Node → (choice : ℕ) → List Task → Pattern
pattern period deadline ns c ts = record {
  period = period;
  deadline = deadline;
  branches = map (λ (row : List Bool). branch_of ts row) (reached ns c);
}

abbrev pub tasks_made : (Position → ℕ) → Job → ℕ → ℕ → List Task
tasks_made local j c g = tasks local (graph j) j.deadline c (tagged g)

abbrev pub pattern_for : Job → ℕ → List Task → Pattern
pattern_for j c ts = pattern j.period j.deadline (graph j) c ts

abbrev pub pattern_made : (Position → ℕ) → Job → ℕ → ℕ → Pattern
pattern_made local j c g = pattern_for j c (tasks_made local j c g)
