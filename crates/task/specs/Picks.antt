-- Choices and branch numbers. A choice picks one edge of every alternative, a branch number one of every conditional.
--   ways m ns u           how many edges such a number may pick at u: those out of it where it is covered, else 1
--   product f u n         the product of n values of f from u on
--   numbers m ns          how many choices, or branch numbers, there are
--   pick m ns k u         which edge out of u, by rising target from 0, the number k picks: the highest node counts fastest
--   keeps m ns k u v      the number k does not drop the edge from u to v
--   by_choice ns c u v    an edge that the choice c keeps
--   by_both ns c b u v    an edge that the choice c and the branch number b keep
use Rattle.std.specs.Prelude.{ℕ, zero, suc, ◌-◌, ◌*◌, ◌/◌, ◌%◌, Bool, cond, not, ◌&&◌, ◌||◌, List, length, ◌==◌}
use Rattle.task.specs.declared.node.Node.{Node}
use Rattle.task.specs.declared.node.Numbering.{Numbering}
use Rattle.task.specs.declared.node.Numbering.TheVariants.{Choice, Branch}
use Rattle.task.specs.Graph.{at, edge, outs, rank}
use Rattle.task.specs.Node.{covers}

abbrev pub ways : Numbering → List Node → ℕ → ℕ
ways m ns u = cond (covers m (at ns u)) (outs ns u) 1

abbrev pub product : (ℕ → ℕ) → ℕ → ℕ → ℕ
product f u zero = 1
product f u (suc n) = f u * product f (suc u) n

abbrev pub numbers : Numbering → List Node → ℕ
numbers m ns = product (ways m ns) 0 (length ns)

abbrev pub pick : Numbering → List Node → ℕ → ℕ → ℕ
pick m ns k u = (k / product (ways m ns) (suc u) (length ns - suc u)) % ways m ns u

abbrev pub keeps : Numbering → List Node → ℕ → ℕ → ℕ → Bool
keeps m ns k u v = not (covers m (at ns u)) || rank ns u v == pick m ns k u

abbrev pub by_choice : List Node → ℕ → ℕ → ℕ → Bool
by_choice ns c u v = edge ns u v && keeps Choice ns c u v

abbrev pub by_both : List Node → ℕ → ℕ → ℕ → ℕ → Bool
by_both ns c b u v = by_choice ns c u v && keeps Branch ns b u v
