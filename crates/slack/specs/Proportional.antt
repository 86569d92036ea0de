-- The proportional rule.
--   proportional p    head / (head + tail) of the deadline, rounded down; outside the bounds all of it
use Rattle.std.specs.Prelude.{ℕ, ◌+◌, ◌*◌, ◌/◌, cond}
use Rattle.slack.specs.declared.rule.Position.{Position}
use Rattle.slack.specs.Rule.{bounded}

abbrev pub proportional : Position → ℕ
proportional p = cond (bounded p) (p.deadline * p.head / (p.head + p.tail)) p.deadline
