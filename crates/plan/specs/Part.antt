-- The sub-tasks of a plan, and its parts.
--   task_at p v            the sub-task at the node v
--   tasks_below p t n      those at the nodes below n that pass the test t, by rising node
--   tasks_where p t        the sub-tasks of the concrete graph whose nodes pass the test t
--   tagged g n             the node n is a sub-task of the tag g
--   part_of p g            the part of the tag g: all sub-tasks of the concrete graph with the tag
--   tasks_in q             the sub-tasks of the part q
use Rattle.std.specs.Prelude.{ℕ, zero, suc, Bool, false, cond, ◌&&◌, List, [], ◌∷◌, ◌++◌, length, ◌==◌, slice_index_or}
use Rattle.few.specs.Few.{items}
use Rattle.plan.specs.declared.part.Part.{Part}
use Rattle.plan.specs.declared.part.Task.{Task}
use Rattle.plan.specs.declared.plan.Plan.{Plan}
use Rattle.plan.specs.Plan.{nodes_of}
use Rattle.task.specs.declared.node.Node.{Node}
use Rattle.task.specs.declared.node.Node.TheVariants.{SubTask, Alternative, Conditional}
use Rattle.task.specs.Graph.{at}
use Rattle.task.specs.Node.{ticks}
use Rattle.window.specs.Windows.{closed}

abbrev pub task_at : Plan → ℕ → Task
task_at p v = record {
  node = v;
  window = slice_index_or p.windows v closed;
  ticks = ticks (at (nodes_of p) v);
}

abbrev pub tasks_below : Plan → (ℕ → Bool) → ℕ → List Task
tasks_below p t zero = []
tasks_below p t (suc v) = tasks_below p t v ++ cond (t v) (task_at p v ∷ []) []

abbrev pub tasks_where : Plan → (Node → Bool) → List Task
tasks_where p t = tasks_below p (λ v. slice_index_or p.members v false && t (at (nodes_of p) v)) (length (nodes_of p))

abbrev pub tagged : ℕ → Node → Bool
tagged g (SubTask tag ticks nodes) = tag == g
tagged g (Alternative nodes) = false
tagged g (Conditional nodes) = false

abbrev pub part_of : Plan → ℕ → List Task
part_of p g = tasks_where p (tagged g)

abbrev pub tasks_in : Part → List Task
tasks_in q = items q.tasks
