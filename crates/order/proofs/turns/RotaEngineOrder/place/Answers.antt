use Rattle.std.proofs.Common.{rules, ◌≡◌, ℕ, Bool, Option, Some, None, ◌++◌, eqb, filter, refl, sym, ap, ◌∙◌, not, arith}
use Rattle.std.specs.List.{range_with_len, slice_get}
use Rattle.std.specs.Option.{option_eq, option_map}
use Rattle.std.proofs.lemmas.Iterator.{YieldsList-from_range}
use Rattle.std.proofs.lemmas.Iterator.Consumers.{nth_from_yields_List, YieldsList-at, YieldsList-from_chain, YieldsList-from_filter}
use Rattle.engine.specs.Roster.{tag_of}
use Rattle.order.specs.Listing.{engines_of}
use Rattle.order.specs.Rota.{is_after, rota_list}
use Rattle.order.proofs.Tagging.{kept_engines}
use Rattle.order.proofs.turns.RotaEngineOrder.place.Goals as goal

unchanged : (o : Option ℕ) → option_map (λ x. x) o ≡ o
unchanged None = refl
unchanged (Some x) = refl

pub returns : goal.returns
returns g c =
    let tags = g.R.Roster.tags c.args.roster.now in
    let tag = c.args.tag in
    let last = c.last_of-last.result in
    let n = c.engines.result in
    let m = c.engines-2.result in
    let has : ℕ → Bool = λ e. option_eq eqb (tag_of tags e) (Some tag) in
    let front : filter has (range_with_len 0 n) ≡ engines_of tags tag = ap (λ k. filter has (range_with_len 0 k)) c.engines.ensures ∙ kept_engines tags tag in
    let back : filter has (range_with_len 0 m) ≡ engines_of tags tag = ap (λ k. filter has (range_with_len 0 k)) c.engines-2.ensures ∙ kept_engines tags tag in
    sym (unchanged c.nth.result)
    ∙ nth_from_yields_List c.nth.result _ c.args.place c.nth.ensures.ran
    (YieldsList-from_chain
    (YieldsList-at c.chain.ensures.first (YieldsList-from_filter _ (λ e. is_after last e)
    (YieldsList-at c.filter-after.ensures.source (YieldsList-from_filter _ has (YieldsList-from_range 0 n n c.filter.ensures.source (omega arith)) c.filter.ensures.closure (λ x b q k. search rules)))
    c.filter-after.ensures.closure (λ x b q k. search rules)))
    (YieldsList-at c.chain.ensures.second (YieldsList-from_filter _ (λ e. not (is_after last e))
    (YieldsList-at c.filter-others.ensures.source (YieldsList-from_filter _ has (YieldsList-from_range 0 m m c.filter-2.ensures.source (omega arith)) c.filter-2.ensures.closure (λ x b q k. search rules)))
    c.filter-others.ensures.closure (λ x b q k. search rules)))
    c.chain.ensures.first_done c.chain.ensures.second_done)
    ∙ ap (λ l. slice_get (filter (λ e. is_after last e) l ++ filter (λ e. not (is_after last e)) (filter has (range_with_len 0 m))) c.args.place) front
    ∙ ap (λ l. slice_get (filter (λ e. is_after last e) (engines_of tags tag) ++ filter (λ e. not (is_after last e)) l) c.args.place) back
    ∙ ap (λ l. slice_get (rota_list l (engines_of tags tag)) c.args.place) c.last_of-last.ensures
