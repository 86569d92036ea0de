-- A rota gives every engine of a tag one place.
use Rattle.std.specs.Prelude.{◌≡◌, ℕ, ◌+◌, Bool, true, false, cond, not, List, filter, Option}
use Rattle.order.specs.declared.rota.Rota.{Rota}
use Rattle.order.specs.Listing.{EachOnce, times, engines_of}
use Rattle.order.specs.ListingLaws.{times_append, times_kept, each_once_engines, each_once_same}
use Rattle.order.specs.Rota.{is_after, rota_list, rota_listing}
use Rattle.std.proofs.Common.{arith}

split : (n : ℕ) (b : Bool) → cond b n 0 + cond (not b) n 0 ≡ n
split n true = omega arith
split n false = omega arith

times_rota : (e : ℕ) (last : Option ℕ) (engines : List ℕ) → times e (rota_list last engines) ≡ times e engines
times_rota e last engines =
    let joined = times_append e (filter (λ x. is_after last x) engines) (filter (λ x. not (is_after last x)) engines) in
    let front = times_kept e (λ x. is_after last x) engines in
    let rest = times_kept e (λ x. not (is_after last x)) engines in
    let whole = split (times e engines) (is_after last e) in
    omega (arith, joined, front, rest, whole)

pub rota_complete : (rota : Rota) (tellings : List (ℕ × ℕ)) (tags : List ℕ) (tag : ℕ) (loads : List ℕ) → EachOnce tags tag (rota_listing rota tellings tags tag loads)
rota_complete rota tellings tags tag loads =
    each_once_same tags tag (engines_of tags tag) _ (λ e. times_rota e _ (engines_of tags tag)) (each_once_engines tags tag)
