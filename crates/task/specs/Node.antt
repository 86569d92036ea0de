-- What a node says.
--   after n        the lower nodes that it comes after: place u is true where it comes after u
--   ticks n        its work; a fork has none
--   is_sub_task n, is_alternative n, is_conditional n, is_fork n    what it is
--   covers m n     numbers of the kind m, choices or branches, pick an edge out of n
--   missing        what stands where there is no node
use Rattle.std.specs.Prelude.{ℕ, Bool, true, false, not, List, []}
use Rattle.task.specs.declared.node.Node.{Node}
use Rattle.task.specs.declared.node.Node.TheVariants.{SubTask, Alternative, Conditional}
use Rattle.task.specs.declared.node.Numbering.{Numbering}
use Rattle.task.specs.declared.node.Numbering.TheVariants.{Choice, Branch}

abbrev pub after : Node → List Bool
after (SubTask tag ticks nodes) = nodes
after (Alternative nodes) = nodes
after (Conditional nodes) = nodes

abbrev pub ticks : Node → ℕ
ticks (SubTask tag n nodes) = n
ticks (Alternative nodes) = 0
ticks (Conditional nodes) = 0

abbrev pub is_sub_task : Node → Bool
is_sub_task (SubTask tag ticks nodes) = true
is_sub_task (Alternative nodes) = false
is_sub_task (Conditional nodes) = false

abbrev pub is_alternative : Node → Bool
is_alternative (SubTask tag ticks nodes) = false
is_alternative (Alternative nodes) = true
is_alternative (Conditional nodes) = false

abbrev pub is_conditional : Node → Bool
is_conditional (SubTask tag ticks nodes) = false
is_conditional (Alternative nodes) = false
is_conditional (Conditional nodes) = true

abbrev pub is_fork : Node → Bool
is_fork n = not (is_sub_task n)

abbrev pub missing : Node
missing = SubTask 0 0 []

abbrev pub covers : Numbering → Node → Bool
covers Choice n = is_alternative n
covers Branch n = is_conditional n
