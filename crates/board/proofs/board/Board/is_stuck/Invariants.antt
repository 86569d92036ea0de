use Rattle.std.proofs.Common.{◌≡◌, ℕ, ◌<◌, true, Some, min, slice_index}
use Rattle.board.specs.Placing.{ShortOn}
use Rattle.board.specs.Residents.{jobs}
use Rattle.engine.specs.Roster.{tag_of}
use Rattle.plan.specs.Pattern.{part_pattern}
use Rattle.resident.specs.Seats.{has_part}
use Rattle.board.proofs.board.Board.is_stuck.Given as goal

abbrev pub invariant-loop-tag : goal.invariant-loop-tag
invariant-loop-tag g l =
    (t : ℕ) → t < l.tag → has_part l.plan t ≡ true → ((e : ℕ) → tag_of (g.P.Roster.tags l.self.platform) e ≡ Some t → ShortOn (g.P.Supply.supply l.self.platform) (jobs l.self.residents) e (part_pattern l.plan t) (min (slice_index l.known e) 28800)) → ⊥
