use Rattle.std.proofs.Common.{rules, ◌<◌, length, Decides, sym, subst}
use Rattle.text.specs.Value.{Marked}
use Rattle.text.proofs.Marking.{marked_decides}
use Rattle.text.proofs.value.are_marks.Goals as goal

pub returns-then-not-is_empty : goal.returns-then-not-is_empty
returns-then-not-is_empty c =
    let bs = c.args.bytes.now in
    let some : 0 < length bs = search rules in
    subst (λ b. Decides b (Marked (λ _. Unit {0}) bs)) (sym c.are_bits.ensures) (marked_decides bs some)
