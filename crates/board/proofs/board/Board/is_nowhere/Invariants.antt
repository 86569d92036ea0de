use Rattle.std.proofs.Common.{◌≡◌, ℕ, ◌<◌, Some, min, slice_index}
use Rattle.board.specs.Placing.{ShortOn}
use Rattle.board.specs.Residents.{jobs}
use Rattle.engine.specs.Roster.{tag_of}
use Rattle.fit.specs.Stated.{States}
use Rattle.theory.specs.Pattern.{Pattern}
use Rattle.board.proofs.board.Board.is_nowhere.Given as goal

abbrev pub invariant-loop-engine : goal.invariant-loop-engine
invariant-loop-engine g l =
    (p : Pattern) → States p l.claim → (e : ℕ) → e < l.engine → tag_of (g.P.Roster.tags l.self.platform) e ≡ Some l.tag → ShortOn (g.P.Supply.supply l.self.platform) (jobs l.self.residents) e p (min (slice_index l.known e) 28800)
