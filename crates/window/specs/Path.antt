-- Paths of the concrete graph of a choice.
--   weigh m n                  what the node n adds to a path: its ticks, or 1 where it is a sub-task
--   work ns v, counts ns v     these two of the node v
--   Path ns c w u v s          kept edges lead from u to v, and the weights w of the nodes on the way, both ends included, sum to s
--   LongestTo ns c w v h       h is the greatest sum over the paths that end at v
--   LongestAfter ns c w v t    t is the greatest sum over the paths that begin at v, without v
--   Possible ns c d            no path takes more than d ticks
--   FirstPossible ns d c       c is the first possible choice
use Rattle.std.specs.Prelude.{◌≡◌, ℕ, ◌+◌, ◌<◌, ◌≤◌, true, cond, List}
use Rattle.task.specs.declared.node.Node.{Node}
use Rattle.task.specs.Concrete.{Member}
use Rattle.task.specs.Graph.{at}
use Rattle.task.specs.Node.{ticks, is_sub_task}
use Rattle.task.specs.declared.node.Numbering.TheVariants.{Choice}
use Rattle.task.specs.Picks.{by_choice, numbers}
use Rattle.window.specs.declared.layout.Measure.{Measure}
use Rattle.window.specs.declared.layout.Measure.TheVariants.{Work, Count}

abbrev pub weigh : Measure → Node → ℕ
weigh Work n = ticks n
weigh Count n = cond (is_sub_task n) 1 0

abbrev pub work : List Node → ℕ → ℕ
work ns v = weigh Work (at ns v)

abbrev pub counts : List Node → ℕ → ℕ
counts ns v = weigh Count (at ns v)

pub data Path (ns : List Node) (c : ℕ) (w : ℕ → ℕ) : ℕ → ℕ → ℕ → Type 0 where
  stay : {v : ℕ} → Member ns c v → Path ns c w v v (w v)
  step : {u v x s : ℕ} → Path ns c w u v s → by_choice ns c v x ≡ true → Path ns c w u x (s + w x)

pub record LongestTo (ns : List Node) (c : ℕ) (w : ℕ → ℕ) (v h : ℕ) : Type 0 where
  pub bound : (u s : ℕ) → Path ns c w u v s → s ≤ h
  pub attained : (u : ℕ) × Path ns c w u v h

pub record LongestAfter (ns : List Node) (c : ℕ) (w : ℕ → ℕ) (v t : ℕ) : Type 0 where
  pub bound : (x s : ℕ) → Path ns c w v x s → s ≤ w v + t
  pub attained : (x : ℕ) × Path ns c w v x (w v + t)

abbrev pub Possible : List Node → ℕ → ℕ → Type 0
Possible ns c d = (u v s : ℕ) → Path ns c (work ns) u v s → s ≤ d

pub record FirstPossible (ns : List Node) (d c : ℕ) : Type 0 where
  pub is_choice : c < numbers Choice ns
  pub possible : Possible ns c d
  pub none_before : (b : ℕ) → b < c → Possible ns b d → ⊥
