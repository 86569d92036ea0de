use Rattle.board.proofs.Numbers.{none_apart}
use Rattle.board.proofs.residents.Residents.new.Goals as goal

pub invariant_of-result : goal.invariant_of-result
invariant_of-result c = record { apart = none_apart }
