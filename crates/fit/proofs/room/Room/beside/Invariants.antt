use Rattle.std.proofs.Common.{map, take}
use Rattle.fit.specs.Room.{Leaves}
use Rattle.fit.proofs.room.Room.beside.Given as goal

abbrev pub invariant-loop-claim : goal.invariant-loop-claim
invariant-loop-claim g l = Leaves (g.P.Supply.supply l.platform l.fn.engine) (take l.claim-index (map (λ c. c.now) l.claims)) l.room
