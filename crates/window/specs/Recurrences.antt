-- What lengths and windows keep, node by node.
--   Ascends rows          every edge of the table leads to a higher node, below 24
--   Within n members      all members are below n
--   Light weights         no weight is above 14,400
--   WeightsOf m ns members ws    the table ws has what each member adds to a path, 0 at the others
--   Settled R ws t v      the table t has at v its weight and the greatest value at the nodes that are R to it
--   Laid ns g L o e v     at a member v, o is the greatest of e over its predecessors, and e is L at a sub-task, the same as o at a fork; else both are 0
use Rattle.std.specs.Prelude.{◌≡◌, ℕ, ◌+◌, ◌<◌, ◌≤◌, Bool, true, false, cond, List, length, MatchBool, slice_index, slice_index_or}
use Rattle.task.specs.declared.node.Node.{Node}
use Rattle.task.specs.declared.tables.Concrete.{Concrete}
use Rattle.task.specs.Graph.{at}
use Rattle.task.specs.Node.{is_sub_task}
use Rattle.task.specs.Tables.{leads}
use Rattle.window.specs.declared.layout.Measure.{Measure}
use Rattle.window.specs.Greatest.{greatest}
use Rattle.window.specs.Path.{weigh}

abbrev pub Ascends : List (List Bool) → Type 0
Ascends rows = (u v : ℕ) → leads rows u v ≡ true → (u < v) × (v < 24)

abbrev pub Within : ℕ → List Bool → Type 0
Within n members = (v : ℕ) → slice_index_or members v false ≡ true → v < n

abbrev pub Light : List ℕ → Type 0
Light weights = (v : ℕ) → slice_index weights v ≤ 14400

abbrev pub WeightsOf : Measure → List Node → List Bool → List ℕ → Type 0
WeightsOf m ns members ws =
    ((v : ℕ) → v < length ns → slice_index ws v ≡ cond (slice_index_or members v false) (weigh m (at ns v)) 0)
    × ((v : ℕ) → length ns ≤ v → slice_index ws v ≡ 0)

abbrev pub Settled : (ℕ → ℕ → Bool) → List ℕ → List ℕ → ℕ → Type 0
Settled R weights table v = slice_index table v ≡ slice_index weights v + greatest (λ u. R u v) (λ u. slice_index table u) 24

abbrev pub Laid : List Node → Concrete → (ℕ → ℕ) → (ℕ → ℕ) → (ℕ → ℕ) → ℕ → Type 0
Laid ns g L o e v =
    MatchBool (slice_index_or g.members v false)
    ((o v ≡ greatest (λ u. leads g.edges u v) e 24) × (e v ≡ cond (is_sub_task (at ns v)) (L v) (o v)))
    ((o v ≡ 0) × (e v ≡ 0))
