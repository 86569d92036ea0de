use Rattle.std.proofs.Common.{rules, ◌≡◌, List, [], ◌∷◌, Bool, All, Option, Some, None, IsSome, MatchOption, map, length, sym, refl, ap, ◌∙◌, subst}
use Rattle.std.proofs.lemmas.List.{length-map, take_all}
use Rattle.engine.specs.declared.marks.Marks.{Marks}
use Rattle.few.specs.Few.{items}
use Rattle.engine.specs.Calendar.{Matching, calendar}
use Rattle.engine.specs.Marks.{Fit, marked}
use Rattle.engine.specs.Tags.{tag_list}
use Rattle.text.specs.declared.platform_text.Engine.{Engine}
use Rattle.text.specs.PlatformText.{said}
use Rattle.text.proofs.calendar_text.make_calendar.Goals as goal

given : {T Q : Type 0} (S : T → Type 0) (r : Option T) → MatchOption r (Q → ⊥) S → Q → IsSome r
given S None none q = absurd (none q)
given S (Some x) some q = refl

marked_said : (es : List Engine) → map marked (map (λ (e : Engine). e.marks) es) ≡ map (λ (e : Engine). (said e).marks) es
marked_said [] = refl
marked_said (e ∷ es) = ap (λ (l : List (List Bool)). marked e.marks ∷ l) (marked_said es)

pub unwrap-requires-2 : goal.unwrap-requires-2
unwrap-requires-2 c =
    let es = c.args.engines.now in
    let all = take_all c.loop-engine.engine-index es c.loop-engine-test.false in
    let marks : c.deref-2.result.now ≡ map (λ (e : Engine). e.marks) es = c.deref-2.ensures.0 ∙ (c.loop-engine.invariant.1 ∙ ap (map (λ (e : Engine). e.marks)) all) in
    let kept : tag_list c.unwrap-engine_tags.result ≡ c.deref.result.now = search rules in
    let tags : tag_list c.unwrap-engine_tags.result ≡ map (λ (e : Engine). e.tag) es = kept ∙ (c.deref.ensures.0 ∙ (c.loop-engine.invariant.0 ∙ ap (map (λ (e : Engine). e.tag)) all)) in
    let match : Matching (tag_list c.unwrap-engine_tags.result) c.deref-2.result.now = record {
      many = ap length marks ∙ (length-map es (λ (e : Engine). e.marks) ∙ (sym (length-map es (λ (e : Engine). e.tag)) ∙ ap length (sym tags)));
      fit = subst (All Fit) (sym marks) c.requires.2;
    } in
    given _ c.new-3.result c.new-3.ensures match

pub returns : goal.returns
returns c =
    let es = c.args.engines.now in
    let all = take_all c.loop-engine.engine-index es c.loop-engine-test.false in
    let marks : c.deref-2.result.now ≡ map (λ (e : Engine). e.marks) es = c.deref-2.ensures.0 ∙ (c.loop-engine.invariant.1 ∙ ap (map (λ (e : Engine). e.marks)) all) in
    let kept : tag_list c.unwrap-engine_tags.result ≡ c.deref.result.now = search rules in
    let tags : tag_list c.unwrap-engine_tags.result ≡ map (λ (e : Engine). e.tag) es = kept ∙ (c.deref.ensures.0 ∙ (c.loop-engine.invariant.0 ∙ ap (map (λ (e : Engine). e.tag)) all)) in
    let same : c.unwrap-2.result.tags ≡ c.unwrap-engine_tags.result = search rules in
    let courses : calendar (items c.unwrap-2.result.courses) ≡ map marked c.deref-2.result.now = search rules in
    record {
      tags = ap tag_list same ∙ tags;
      marks = courses ∙ (ap (λ (ms : List Marks). map marked ms) marks ∙ marked_said es);
    }
