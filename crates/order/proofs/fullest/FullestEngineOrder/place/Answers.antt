use Rattle.std.proofs.Common.{rules, ℕ, ◌+◌, ◌<◌, ◌≤◌, List, map, length, get_or, Option, Some, None, MatchOption, Bor, ◌≡◌, sym, refl, ap, subst, ◌∙◌}
use Rattle.std.proofs.lemmas.Option.{slice_get_past, slice_get_read}
use Rattle.std.specs.List.{HoldsAt, slice_get}
use Rattle.std.specs.List.Sorted.{IsPermutation, IsSortedBy}
use Rattle.std.specs.Option.{option_copied, option_map}
use Rattle.order.specs.declared.fullest.Candidate.{Candidate}
use Rattle.few.specs.Few.{items}
use Rattle.order.specs.Fullest.{before, candidate}
use Rattle.order.specs.Least.{FirstLeast}
use Rattle.order.specs.Listing.{engines_of}
use Rattle.order.specs.Sorting.{sorted}
use Rattle.order.proofs.Loads.{ahead, before_strict, compare, engine_at, engine_first, ranked}
use Rattle.order.proofs.Sorts.{in_order_sorted}
use Rattle.order.proofs.fullest.FullestEngineOrder.place.Goals as goal

read_at : {X : Type 0} (xs : List X) (k : ℕ) (o : Option (Bor X)) → MatchOption o (length xs ≤ k) (λ x. (k < length xs) × HoldsAt (λ y. x.now ≡ y) xs k) → option_copied o ≡ slice_get xs k
read_at xs k None past = sym (slice_get_past xs k past)
read_at xs k (Some x) at = sym (slice_get_read xs (length xs) k x.now refl at.0 (at.1 x.now))

pub returns-clause-at : goal.returns-clause-at
returns-clause-at g c =
    let loads = c.args.loads.now in
    let es = engines_of (g.R.Roster.tags c.args.roster.now) c.args.tag in
    let cs = items c.sort.new.self in
    let got = read_at c.deref-2.result.now c.args.place c.get.result c.get.ensures.lookup.3 ∙ ap (λ l. slice_get l c.args.place) c.deref-2.ensures.0 in
    let named : c.map.result ≡ option_map (λ (d : Candidate). d.engine) (option_copied c.get.result) = search rules in
    let moved = subst (λ l. IsPermutation l cs) c.gather.ensures c.sort.ensures.same in
    let up : IsSortedBy ahead cs = λ k d low high. sym (ranked (get_or cs (k + 1) d) (get_or cs k d)) ∙ c.sort.ensures.sorted k d low high in
    named ∙ ap (option_map (λ (d : Candidate). d.engine)) got ∙ engine_at loads es cs c.args.place moved up

pub returns-clause-sorted : goal.returns-clause-sorted
returns-clause-sorted g c = in_order_sorted (before c.args.loads.now) (before_strict c.args.loads.now) (engines_of (g.R.Roster.tags c.args.roster.now) c.args.tag)

pub returns-then-place-eq0-clause-sorted : goal.returns-then-place-eq0-clause-sorted
returns-then-place-eq0-clause-sorted g c = in_order_sorted (before c.args.loads.now) (before_strict c.args.loads.now) (engines_of (g.R.Roster.tags c.args.roster.now) c.args.tag)

pub returns-then-place-eq0-clause-at : goal.returns-then-place-eq0-clause-at
returns-then-place-eq0-clause-at g c =
    let loads = c.args.loads.now in
    let es = engines_of (g.R.Roster.tags c.args.roster.now) c.args.tag in
    let cs = c.deref-then-place-eq0.result.now in
    let i = c.in_ok-first.first in
    let is : cs ≡ map (candidate loads) es = c.deref-then-place-eq0.ensures.0 ∙ c.gather.ensures in
    let first : FirstLeast compare cs i = subst (λ l. FirstLeast compare l i) (c.deref.ensures.0 ∙ sym c.deref-then-place-eq0.ensures.0) c.in_ok-first.ensures in
    engine_first loads es cs i (record { load = record { 0 = 0 }; engine = 0 }) is first ∙ ap (λ k. slice_get (sorted (before loads) es) k) (sym c.if-place-eq0.true)
