use Rattle.std.proofs.Common.{ℕ, List, ◌++◌, map}
use Rattle.play.specs.Texts.{Texts}
use Rattle.std.specs.Option.{option_map}
use Rattle.play.proofs.Left.{left_of}
use Rattle.play.proofs.texts.texts.Given as goal

abbrev pub invariant-loop-left : goal.invariant-loop-left
invariant-loop-left l =
    (ts : List (List ℕ)) → Texts (option_map (λ x. x.now) l.left) ts → Texts (option_map (λ x. x.now) l.papers) (map (λ x. x.now) l.texts.items ++ ts)

abbrev pub decreases-loop-left : goal.decreases-loop-left
decreases-loop-left l = left_of (option_map (λ x. x.now) l.left)
