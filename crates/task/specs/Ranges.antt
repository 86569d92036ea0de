-- The ranges of a job's numbers.
--   fits f           the number f lies in its range
--   numbers_fit n    so do the numbers of the node n
use Rattle.std.specs.Prelude.{◌%◌, Bool, true, ◌&&◌, ◌==◌, nat_le}
use Rattle.task.specs.declared.node.Node.{Node}
use Rattle.task.specs.declared.node.Node.TheVariants.{SubTask, Alternative, Conditional}
use Rattle.task.specs.declared.ranges.Field.{Field}
use Rattle.task.specs.declared.ranges.Field.TheVariants.{Number, Period, Deadline, Count, Tag, Work}

-- a belt cycle of 14,400 ticks is a whole number of periods
abbrev pub fits : Field → Bool
fits (Number n) = nat_le 1 n && nat_le n 65535
fits (Period t) = nat_le 1 t && 14400 % t == 0
fits (Deadline t d) = nat_le 1 d && nat_le d t
fits (Count n) = nat_le 1 n && nat_le n 24
fits (Tag n) = nat_le n 7
fits (Work n) = nat_le 1 n && nat_le n 14400

abbrev pub numbers_fit : Node → Bool
numbers_fit (SubTask tag ticks nodes) = fits (Tag tag) && fits (Work ticks)
numbers_fit (Alternative nodes) = true
numbers_fit (Conditional nodes) = true
