-- The even rule.
--   even p    head, and level / depth of the ticks that the span leaves of the deadline, rounded down;
--             the whole deadline after the last sub-task of a path, and outside the bounds
use Rattle.std.specs.Prelude.{ℕ, ◌+◌, ◌-◌, ◌*◌, ◌/◌, cond, ◌==◌}
use Rattle.slack.specs.declared.rule.Position.{Position}
use Rattle.slack.specs.Rule.{bounded}

abbrev pub even : Position → ℕ
even p =
    cond (bounded p)
    (cond (p.tail == 0) p.deadline (p.head + (p.deadline - p.span) * p.level / p.depth))
    p.deadline
