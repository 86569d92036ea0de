use Rattle.std.proofs.Common.{◌≡◌, ℕ, List, ◌++◌, string_bytes}
use Rattle.board.specs.Residents.{jobs}
use Rattle.listing.specs.Listing.{Answered}
use Rattle.listing.specs.Rules.{seat_rules}
use Rattle.std.specs.Option.{option_map}
use Rattle.listing.proofs.Leftover.{leftover}
use Rattle.listing.proofs.listing.answers.Given as goal

abbrev pub invariant-loop-left : goal.invariant-loop-left
invariant-loop-left l =
    (l.board.platform ≡ l.initial.board.platform)
    × ((bs : List ℕ) → Answered (seat_rules l.initial.board.platform) (jobs l.board.residents) (option_map (λ x. x.now) l.left) bs
    → Answered (seat_rules l.initial.board.platform) (jobs l.initial.board.residents) (option_map (λ x. x.now) l.texts) (string_bytes l.lines ++ bs))

abbrev pub decreases-loop-left : goal.decreases-loop-left
decreases-loop-left l = leftover (option_map (λ x. x.now) l.left)
