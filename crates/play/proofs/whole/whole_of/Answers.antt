use Rattle.std.proofs.Common.{rules, ◌≡◌, Option, Some, None, IsSome, MatchOption, map, sym, refl, ap, ◌∙◌, subst}
use Rattle.std.proofs.lemmas.List.{take_all}
use Rattle.engine.specs.Roster.{Rostered}
use Rattle.engine.specs.Tags.{tag_list}
use Rattle.text.specs.declared.platform_text.Engine.{Engine}
use Rattle.play.proofs.whole.whole_of.Goals as goal

given : {T Q : Type 0} (S : T → Type 0) (r : Option T) → MatchOption r (Q → ⊥) S → Q → IsSome r
given S None none q = absurd (none q)
given S (Some x) some q = refl

pub unwrap-requires-2 : goal.unwrap-requires-2
unwrap-requires-2 c =
    let es = c.args.engines.now in
    let all = take_all c.loop-engine.engine-index es c.loop-engine-test.false in
    let tags : c.deref.result.now ≡ map (λ (e : Engine). e.tag) es = c.deref.ensures.0 ∙ (c.loop-engine.invariant ∙ ap (map (λ (e : Engine). e.tag)) all) in
    given _ c.new.result c.new.ensures (subst Rostered (sym tags) c.requires.1)

pub returns : goal.returns
returns c =
    let es = c.args.engines.now in
    let all = take_all c.loop-engine.engine-index es c.loop-engine-test.false in
    let tags : c.deref.result.now ≡ map (λ (e : Engine). e.tag) es = c.deref.ensures.0 ∙ (c.loop-engine.invariant ∙ ap (map (λ (e : Engine). e.tag)) all) in
    let kept : tag_list c.unwrap-2.result ≡ c.deref.result.now = search rules in
    kept ∙ tags
