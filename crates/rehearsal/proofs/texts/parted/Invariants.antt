use Rattle.std.proofs.Common.{ℕ, List, ◌++◌, map}
use Rattle.listing.proofs.Leftover.{leftover}
use Rattle.rehearsal.specs.Texts.{Parted}
use Rattle.std.specs.Option.{option_map}
use Rattle.rehearsal.proofs.texts.parted.Given as goal

abbrev pub invariant-loop-left : goal.invariant-loop-left
invariant-loop-left l =
    (ts : List (List ℕ)) → Parted (option_map (λ x. x.now) l.left) ts → Parted (option_map (λ x. x.now) l.texts) (map (λ x. x.now) l.found.items ++ ts)

abbrev pub decreases-loop-left : goal.decreases-loop-left
decreases-loop-left l = leftover (option_map (λ x. x.now) l.left)
