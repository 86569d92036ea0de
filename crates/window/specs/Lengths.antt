-- The lengths of a concrete graph.
--   outside                          what stands where there is no node
--   head l v, tail l v, level l v    what l has of the node v
--   LargestOf ns c value G           G is the largest value at a node of the concrete graph of the choice c
--   IsLengths ns c l    l has head, tail and level of each node of the concrete graph of the choice c, 0 at the others,
--                        and the largest head and the largest level
use Rattle.std.specs.Prelude.{◌≡◌, ℕ, ◌≤◌, List, slice_index_or}
use Rattle.task.specs.declared.node.Node.{Node}
use Rattle.task.specs.Concrete.{Member}
use Rattle.window.specs.declared.layout.Lengths.{Lengths}
use Rattle.window.specs.declared.layout.Longest.{Longest}
use Rattle.window.specs.Path.{work, counts, LongestTo, LongestAfter}

-- what stands where there is no node
abbrev pub outside : Longest
outside = record { head = 0; tail = 0; level = 0 }

abbrev pub head : Lengths → ℕ → ℕ
head l v = (slice_index_or l.nodes v outside).head

abbrev pub tail : Lengths → ℕ → ℕ
tail l v = (slice_index_or l.nodes v outside).tail

abbrev pub level : Lengths → ℕ → ℕ
level l v = (slice_index_or l.nodes v outside).level

pub record LargestOf (ns : List Node) (c : ℕ) (value : ℕ → ℕ) (G : ℕ) : Type 0 where
  pub bound : (v : ℕ) → Member ns c v → value v ≤ G
  pub attained : (v : ℕ) × Member ns c v × (value v ≡ G)

pub record IsLengths (ns : List Node) (c : ℕ) (l : Lengths) : Type 0 where
  pub heads : (v : ℕ) → Member ns c v → LongestTo ns c (work ns) v (head l v)
  pub tails : (v : ℕ) → Member ns c v → LongestAfter ns c (work ns) v (tail l v)
  pub levels : (v : ℕ) → Member ns c v → LongestTo ns c (counts ns) v (level l v)
  pub nowhere : (v : ℕ) → (Member ns c v → ⊥) → (head l v ≡ 0) × (tail l v ≡ 0) × (level l v ≡ 0)
  pub span : LargestOf ns c (head l) l.span
  pub depth : LargestOf ns c (level l) l.depth
