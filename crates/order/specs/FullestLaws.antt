-- The order by load gives every engine of a tag one place.
use Rattle.std.specs.Prelude.{ℕ, List}
use Rattle.order.specs.declared.fullest.Fullest.{Fullest}
use Rattle.order.specs.Fullest.{before, fullest_listing}
use Rattle.order.specs.Listing.{EachOnce, engines_of}
use Rattle.order.specs.ListingLaws.{each_once_engines, each_once_same}
use Rattle.order.specs.SortingLaws.{times_sorted}

pub fullest_complete : (order : Fullest) (tellings : List (ℕ × ℕ)) (tags : List ℕ) (tag : ℕ) (loads : List ℕ) → EachOnce tags tag (fullest_listing order tellings tags tag loads)
fullest_complete order tellings tags tag loads =
    each_once_same tags tag (engines_of tags tag) _ (λ e. times_sorted (before loads) e (engines_of tags tag)) (each_once_engines tags tag)
