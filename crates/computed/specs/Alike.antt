-- Plans that ask the same.
--   PlansAlike p q    p and q have the same job, choice and members, the same windows, what each branch number reaches, and so the same parts and patterns
use Rattle.std.specs.Prelude.{◌≡◌, ℕ, Bool, false, List, [], length, slice_index_or}
use Rattle.plan.specs.declared.part.Task.{Task}
use Rattle.plan.specs.declared.plan.Plan.{Plan}
use Rattle.plan.specs.Part.{part_of, tasks_where}
use Rattle.plan.specs.Pattern.{part_pattern, pattern_of}
use Rattle.plan.specs.Plan.{reached_rows}
use Rattle.task.specs.declared.node.Node.{Node}
use Rattle.window.specs.Windows.{closed}

pub record PlansAlike (p q : Plan) : Type 0 where
  pub jobs : p.job ≡ q.job
  pub choices : p.choice ≡ q.choice
  pub members : (v : ℕ) → slice_index_or p.members v false ≡ slice_index_or q.members v false
  pub windows : (v : ℕ) → slice_index_or p.windows v closed ≡ slice_index_or q.windows v closed
  pub many : length (reached_rows p) ≡ length (reached_rows q)
  pub reached : (b v : ℕ) → slice_index_or (slice_index_or (reached_rows p) b []) v false ≡ slice_index_or (slice_index_or (reached_rows q) b []) v false
  pub tasks : (t : Node → Bool) → tasks_where p t ≡ tasks_where q t
  pub patterns : (ts : List Task) → pattern_of p ts ≡ pattern_of q ts
  pub parts : (g : ℕ) → part_of p g ≡ part_of q g
  pub part_patterns : (g : ℕ) → part_pattern p g ≡ part_pattern q g
