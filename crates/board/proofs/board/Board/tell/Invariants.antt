use Rattle.std.proofs.Common.{◌≡◌, ℕ, List, ◌++◌, map, take}
use Rattle.resident.specs.declared.resident.Seat.{Seat}
use Rattle.board.proofs.board.Board.tell.Given as goal

abbrev pub invariant-loop-seat : goal.invariant-loop-seat
invariant-loop-seat g l = record {
  told : (ts : List (ℕ × ℕ)) → g.O.EngineOrder.listing l.self.order ts ≡ g.O.EngineOrder.listing l.initial.self.order (map (λ (s : Seat). (s.tag, s.engine)) (take l.seat-index l.seat-items) ++ ts);
  platform : l.self.platform ≡ l.initial.self.platform;
  rule : l.self.rule ≡ l.initial.self.rule;
  residents : l.self.residents ≡ l.initial.self.residents;
}
