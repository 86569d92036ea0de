use Rattle.std.proofs.Common.{◌≡◌, ◌∷◌, ◌++◌, map, take}
use Rattle.board.specs.Asked.{claims_on}
use Rattle.board.proofs.Asking.{claims_of}
use Rattle.few.specs.Few.{items}
use Rattle.board.proofs.asked.claims_on.Given as goal

abbrev pub invariant-loop-seat : goal.invariant-loop-seat
invariant-loop-seat l = map (λ c. c.now) (items l.claims) ≡ l.claim ∷ (claims_on (take l.resident-index l.residents) l.engine ++ claims_of l.engine (take l.seat-index l.seat-items))

abbrev pub invariant-loop-resident : goal.invariant-loop-resident
invariant-loop-resident l = map (λ c. c.now) (items l.claims) ≡ l.claim ∷ claims_on (take l.resident-index l.residents) l.engine
