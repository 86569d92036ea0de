-- The windows of a concrete graph, computed node by node.
--   opens g ends v            the largest of the ends of the predecessors of v, 0 where there is none and outside the graph
--   due ns g L ends v         when v is due: a sub-task when L says, a fork when it opens; 0 outside the graph
--   ends ns g L               when each node is due
--   windows_of g ends n       the windows of n nodes that are due then
--   windows_by local ns d g l   the windows in a job with the deadline d, by the slack rule local, of a graph with the lengths l
--   windows local ns d g      the windows in a job with the deadline d, by the slack rule local
use Rattle.std.specs.Prelude.{ℕ, false, cond, List, length, slice_index, slice_index_or}
use Rattle.slack.specs.declared.rule.Position.{Position}
use Rattle.task.specs.declared.node.Node.{Node}
use Rattle.task.specs.declared.tables.Concrete.{Concrete}
use Rattle.task.specs.Graph.{at}
use Rattle.task.specs.Node.{is_sub_task}
use Rattle.task.specs.Tables.{leads}
use Rattle.window.specs.declared.layout.Lengths.{Lengths}
use Rattle.window.specs.declared.layout.Window.{Window}
use Rattle.window.specs.Greatest.{greatest}
use Rattle.window.specs.Windows.{position}
use Rattle.computed.specs.Lengths.{lengths}
use Rattle.computed.specs.Tables.{each, rising}

abbrev pub opens : Concrete → (ℕ → ℕ) → ℕ → ℕ
opens g ends v = cond (slice_index_or g.members v false) (greatest (λ u. leads g.edges u v) ends 24) 0

abbrev pub due : List Node → Concrete → (ℕ → ℕ) → (ℕ → ℕ) → ℕ → ℕ
due ns g L ends v = cond (slice_index_or g.members v false) (cond (is_sub_task (at ns v)) (L v) (opens g ends v)) 0

abbrev pub ends : List Node → Concrete → (ℕ → ℕ) → List ℕ
ends ns g L = rising 0 (due ns g L) (length ns)

abbrev pub windows_of : Concrete → List ℕ → ℕ → List Window
windows_of g ends n = each (λ v. record { offset = opens g (slice_index ends) v; deadline = slice_index ends v }) n

abbrev pub windows_by : (Position → ℕ) → List Node → ℕ → Concrete → Lengths → List Window
windows_by local ns d g l = windows_of g (ends ns g (λ v. local (position d l v))) (length ns)

abbrev pub windows : (Position → ℕ) → List Node → ℕ → Concrete → List Window
windows local ns d g = windows_by local ns d g (lengths ns g)
