use Rattle.std.proofs.Common.{ℕ, List, ◌∷◌, ◌++◌, map, ap, sym, ◌∙◌}
use Rattle.std.proofs.lemmas.List.{take_all}
use Rattle.board.proofs.Steps.{told_more}
use Rattle.resident.specs.declared.resident.Seat.{Seat}
use Rattle.board.proofs.board.Board.tell.Goals as goal

pub loop-seat-preserved : goal.loop-seat-preserved
loop-seat-preserved g c =
    let inv = c.loop-seat.invariant in
    let was = g.O.EngineOrder.listing c.args.self.now.order in
    let seat = c.seat-item.result in
    let telling : Seat → ℕ × ℕ = λ s. (s.tag, s.engine) in
    record {
      told = λ ts. c.tell.ensures ts ∙ inv.told ((seat.tag, seat.engine) ∷ ts) ∙ ap was (sym (told_more telling c.deref-seat-items.result.now c.loop-seat.seat-index seat ts c.loop-seat-test.true c.seat-item.is));
      platform = inv.platform;
      rule = inv.rule;
      residents = inv.residents;
    }

pub returns-clause-told : goal.returns-clause-told
returns-clause-told g c =
    let was = g.O.EngineOrder.listing c.args.self.now.order in
    λ ts. c.loop-seat.invariant.told ts
    ∙ ap (λ (ss : List Seat). was (map (λ (s : Seat). (s.tag, s.engine)) ss ++ ts)) (take_all c.loop-seat.seat-index c.deref-seat-items.result.now c.loop-seat-test.false ∙ c.deref-seat-items.ensures.0)
