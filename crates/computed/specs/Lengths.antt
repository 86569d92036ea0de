-- The lengths of the longest paths of a concrete graph, computed node by node.
--   weights m ns g                          what each node of the graph adds to a path, 0 at the others
--   to g ws n                               the greatest sum of weights on a path that ends at each of n nodes
--   onwards g ws n                          the greatest sum of weights on a path that begins at each of them
--   lengths_of g work heads from levels n   the lengths of the longest paths of n nodes: work is their ticks, heads and levels the sums to each node, from those onwards
--   lengths_by g work counts n              the same of what each node adds: its ticks, and 1 at a sub-task
--   lengths ns g                            the lengths of the longest paths
use Rattle.std.specs.Prelude.{ℕ, ◌+◌, ◌-◌, false, cond, List, length, slice_index, slice_index_or}
use Rattle.task.specs.declared.node.Node.{Node}
use Rattle.task.specs.declared.tables.Concrete.{Concrete}
use Rattle.task.specs.Graph.{at}
use Rattle.task.specs.Tables.{leads}
use Rattle.window.specs.declared.layout.Lengths.{Lengths}
use Rattle.window.specs.declared.layout.Measure.{Measure}
use Rattle.window.specs.declared.layout.Measure.TheVariants.{Work, Count}
use Rattle.window.specs.Greatest.{greatest}
use Rattle.window.specs.Path.{weigh}
use Rattle.computed.specs.Tables.{each, falling, rising}

abbrev pub weights : Measure → List Node → Concrete → List ℕ
weights m ns g = each (λ v. cond (slice_index_or g.members v false) (weigh m (at ns v)) 0) (length ns)

abbrev pub to : Concrete → List ℕ → ℕ → List ℕ
to g ws n = rising 0 (λ t v. slice_index ws v + greatest (λ u. leads g.edges u v) t 24) n

abbrev pub onwards : Concrete → List ℕ → ℕ → List ℕ
onwards g ws n = falling 0 (λ t v. slice_index ws v + greatest (λ u. leads g.edges v u) t 24) 0 n

abbrev pub lengths_of : Concrete → (work heads from levels : List ℕ) → ℕ → Lengths
lengths_of g work heads from levels n = record {
  nodes = each (λ v. record { head = slice_index heads v; tail = slice_index from v - slice_index work v; level = slice_index levels v }) n;
  span = greatest (λ u. slice_index_or g.members u false) (slice_index heads) 24;
  depth = greatest (λ u. slice_index_or g.members u false) (slice_index levels) 24;
}

abbrev pub lengths_by : Concrete → (work counts : List ℕ) → ℕ → Lengths
lengths_by g work counts n = lengths_of g work (to g work n) (onwards g work n) (to g counts n) n

abbrev pub lengths : List Node → Concrete → Lengths
lengths ns g = lengths_by g (weights Work ns g) (weights Count ns g) (length ns)
