-- The windows of the sub-tasks of a concrete graph.
--   position d l v                where the node v stands, in a job with the deadline d
--   Before ns c u v               u is a predecessor of v in the concrete graph
--   closed                        the window of what is outside the graph
--   offset_of ws v, deadline_of ws v    the window of the node v, counted from the arrival
--   Opens ns c due v o            o is the largest of the moments at which the predecessors of v are due, 0 where there is none
--   IsWindows ns c d local l ws   ws has the offset and the local deadline of each node of the concrete graph, 0 at the others
--   WindowsHold ns c d ws         offset + ticks ≤ local deadline ≤ d at each sub-task, and no sub-task opens before one on a path to it is due
use Rattle.std.specs.Prelude.{◌≡◌, ℕ, ◌+◌, ◌<◌, ◌≤◌, true, false, ◌⊎◌, List, slice_index_or}
use Rattle.task.specs.declared.node.Node.{Node}
use Rattle.task.specs.Concrete.{Member}
use Rattle.task.specs.Graph.{at}
use Rattle.task.specs.Node.{is_sub_task}
use Rattle.task.specs.Picks.{by_choice}
use Rattle.slack.specs.declared.rule.Position.{Position}
use Rattle.window.specs.declared.layout.Lengths.{Lengths}
use Rattle.window.specs.declared.layout.Window.{Window}
use Rattle.window.specs.Lengths.{head, tail, level}
use Rattle.window.specs.Path.{work, Path}

abbrev pub position : ℕ → Lengths → ℕ → Position
position d l v = record {
  deadline = d;
  span = l.span;
  depth = l.depth;
  head = head l v;
  tail = tail l v;
  level = level l v;
}

abbrev pub Before : List Node → ℕ → ℕ → ℕ → Type 0
Before ns c u v = Member ns c u × (by_choice ns c u v ≡ true)

-- the window of what is outside the graph
abbrev pub closed : Window
closed = record { offset = 0; deadline = 0 }

abbrev pub offset_of : List Window → ℕ → ℕ
offset_of ws v = (slice_index_or ws v closed).offset

abbrev pub deadline_of : List Window → ℕ → ℕ
deadline_of ws v = (slice_index_or ws v closed).deadline

pub record Opens (ns : List Node) (c : ℕ) (due : ℕ → ℕ) (v o : ℕ) : Type 0 where
  pub bound : (u : ℕ) → Before ns c u v → due u ≤ o
  pub attained : (((u : ℕ) → Before ns c u v → ⊥) × (o ≡ 0)) ⊎ ((u : ℕ) × Before ns c u v × (due u ≡ o))

pub record IsWindows (ns : List Node) (c d : ℕ) (local : Position → ℕ) (l : Lengths) (ws : List Window) : Type 0 where
  pub offsets : (v : ℕ) → Member ns c v → Opens ns c (deadline_of ws) v (offset_of ws v)
  pub sub_task : (v : ℕ) → Member ns c v → is_sub_task (at ns v) ≡ true → deadline_of ws v ≡ local (position d l v)
  pub fork : (v : ℕ) → Member ns c v → is_sub_task (at ns v) ≡ false → deadline_of ws v ≡ offset_of ws v
  pub nowhere : (v : ℕ) → (Member ns c v → ⊥) → (offset_of ws v ≡ 0) × (deadline_of ws v ≡ 0)

pub record WindowsHold (ns : List Node) (c d : ℕ) (ws : List Window) : Type 0 where
  pub roomy : (v : ℕ) → Member ns c v → is_sub_task (at ns v) ≡ true → offset_of ws v + work ns v ≤ deadline_of ws v
  pub timely : (v : ℕ) → Member ns c v → is_sub_task (at ns v) ≡ true → deadline_of ws v ≤ d
  pub ordered : (u v s : ℕ) → Path ns c (work ns) u v s → u < v → deadline_of ws u ≤ offset_of ws v
