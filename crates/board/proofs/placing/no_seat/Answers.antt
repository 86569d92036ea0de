use Rattle.std.proofs.Common.{refl, arith}
use Rattle.std.proofs.lemmas.List.{get_or-replicate}
use Rattle.board.proofs.placing.no_seat.Goals as goal

pub invariant_of-cut : goal.invariant_of-cut
invariant_of-cut c = record {
  placed = refl;
  rising = λ i j d low high. omega (arith, get_or-replicate 24 i 0 d (omega arith), get_or-replicate 24 j 0 d high);
}
