use Rattle.std.proofs.Common.{ℕ, min, slice_index, subst, sym, inl, inr, arith}
use Rattle.std.proofs.lemmas.Bool.{cases_eq}
use Rattle.board.specs.Placing.{ShortOn}
use Rattle.board.specs.Residents.{jobs}
use Rattle.board.proofs.board.Board.is_nowhere.Goals as goal

pub loop-engine-preserved : goal.loop-engine-preserved
loop-engine-preserved g c p states e low its = elim (cases_eq e c.loop-engine.engine) [
  | inl is ↦
      let me = c.args.self.now in
      let short : ShortOn (g.P.Supply.supply me.platform) (jobs me.residents) c.loop-engine.engine p (min (slice_index c.args.known.now c.loop-engine.engine) 28800) =
      (c.is_short.ensures p states).0 c.if-not-is_short.false in
      subst (λ (x : ℕ). ShortOn (g.P.Supply.supply me.platform) (jobs me.residents) x p (min (slice_index c.args.known.now x) 28800)) (sym is) short
  | inr isn't ↦ c.loop-engine.invariant p states e (omega arith) its
]
