use Rattle.std.proofs.Common.{◌≡◌, take}
use Rattle.board.specs.Residents.{jobs, others}
use Rattle.board.proofs.residents.Residents.without.Given as goal

abbrev pub invariant-loop-resident : goal.invariant-loop-resident
invariant-loop-resident l = jobs l.left ≡ others (take l.resident-index l.resident-items) l.number
