-- The concrete graph of a choice, and what an arrival reaches.
--   Led ns keep v        v has no edge in, or a kept edge leads to it from such a node, and so on
--   Member ns c v        v is a node of the concrete graph of the choice c
--   Reached ns c b v     the choice c and the branch number b reach v
--   Rises ns keep        every kept edge leads to a higher node of the graph
--   IsConcrete ns c g    g has the nodes of the concrete graph and the kept edges between them
use Rattle.std.specs.Prelude.{◌≡◌, ℕ, ◌<◌, Bool, true, false, List, length, Decides}
use Rattle.task.specs.declared.node.Node.{Node}
use Rattle.task.specs.declared.tables.Concrete.{Concrete}
use Rattle.task.specs.Graph.{edge}
use Rattle.task.specs.Picks.{by_choice, by_both}
use Rattle.task.specs.Tables.{Tells, leads}

pub data Led (ns : List Node) (keep : ℕ → ℕ → Bool) : ℕ → Type 0 where
  first : {v : ℕ} → v < length ns → ((u : ℕ) → edge ns u v ≡ false) → Led ns keep v
  next : {u v : ℕ} → Led ns keep u → keep u v ≡ true → Led ns keep v

abbrev pub Member : List Node → ℕ → ℕ → Type 0
Member ns c v = Led ns (by_choice ns c) v

abbrev pub Reached : List Node → ℕ → ℕ → ℕ → Type 0
Reached ns c b v = Led ns (by_both ns c b) v

abbrev pub Rises : List Node → (ℕ → ℕ → Bool) → Type 0
Rises ns keep = (u v : ℕ) → keep u v ≡ true → (u < v) × (v < length ns)

pub record IsConcrete (ns : List Node) (c : ℕ) (g : Concrete) : Type 0 where
  pub nodes : Tells (Member ns c) g.members
  pub edges : (u v : ℕ) → Decides (leads g.edges u v) (Member ns c u × (by_choice ns c u v ≡ true))
