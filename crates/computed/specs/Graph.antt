-- The concrete graph of a choice and what its arrivals reach, computed node by node.
--   rows F n               the table of the edges F between the numbers below n
--   is_led ns keep was v   v has no edge in, or a kept edge leads to it from a lower number that is led to, as was says
--   led ns keep            which nodes the kept edges lead to
--   kept ns c              the table of the edges that the choice c keeps
--   graph_of kept members  the concrete graph of these members
--   concrete_of ns kept    the concrete graph of a choice that keeps these edges
--   concrete ns c          the concrete graph of the choice c
--   reached_of ns kept b   what an arrival with the branch number b reaches, of the edges that a choice keeps
--   all_reached ns kept    the same for each branch number
--   reached ns c           for each branch number what an arrival with it reaches under the choice c
use Rattle.std.specs.Prelude.{ℕ, Bool, false, not, ◌&&◌, ◌||◌, List, length, slice_index_or}
use Rattle.task.specs.declared.node.Node.{Node}
use Rattle.task.specs.declared.node.Numbering.TheVariants.{Branch}
use Rattle.task.specs.declared.tables.Concrete.{Concrete}
use Rattle.task.specs.Graph.{edge}
use Rattle.task.specs.Picks.{by_choice, keeps, numbers}
use Rattle.task.specs.Tables.{leads}
use Rattle.computed.specs.Tables.{each, rising, some_below}

abbrev pub rows : (ℕ → ℕ → Bool) → ℕ → List (List Bool)
rows F n = each (λ v. each (λ u. F u v) v) n

abbrev pub is_led : List Node → (ℕ → ℕ → Bool) → (ℕ → Bool) → ℕ → Bool
is_led ns keep was v = not (some_below (λ u. edge ns u v) v) || some_below (λ u. keep u v && was u) v

abbrev pub led : List Node → (ℕ → ℕ → Bool) → List Bool
led ns keep = rising false (is_led ns keep) (length ns)

abbrev pub kept : List Node → ℕ → List (List Bool)
kept ns c = rows (by_choice ns c) (length ns)

abbrev pub graph_of : List (List Bool) → List Bool → Concrete
graph_of kept members = record {
  members = members;
  edges = rows (λ u v. leads kept u v && slice_index_or members u false) (length members);
}

abbrev pub concrete_of : List Node → List (List Bool) → Concrete
concrete_of ns kept = graph_of kept (led ns (leads kept))

abbrev pub concrete : List Node → ℕ → Concrete
concrete ns c = concrete_of ns (kept ns c)

abbrev pub reached_of : List Node → List (List Bool) → ℕ → List Bool
reached_of ns kept b = led ns (leads (rows (λ u v. leads kept u v && keeps Branch ns b u v) (length ns)))

abbrev pub all_reached : List Node → List (List Bool) → List (List Bool)
all_reached ns kept = each (reached_of ns kept) (numbers Branch ns)

abbrev pub reached : List Node → ℕ → List (List Bool)
reached ns c = all_reached ns (kept ns c)
