use Rattle.std.proofs.Common.{rules, ◌≡◌, ℕ, List, [], ◌∷◌, ◌++◌, map, sym, ap, ◌∙◌, subst, append-nil, Bor, Option}
use Rattle.std.specs.Option.{option_map}
use Rattle.rehearsal.specs.Texts.{Parted, none, one}
use Rattle.rehearsal.proofs.JobTexts.{put_last}
use Rattle.rehearsal.proofs.texts.parted.Goals as goal

pub loop-left-preserved : goal.loop-left-preserved
loop-left-preserved c =
    let whole = option_map (λ x. x.now) c.args.texts in
    let text = c.first_text.result.0 in
    let pushed : c.push.new.self.items ≡ c.loop-left.found.items ++ text ∷ [] = search rules in
    λ ts rest.
    let more = subst (λ (o : Option (Bor (List ℕ))). Parted (option_map (λ x. x.now) o) (text.now ∷ ts)) (sym c.in-Some.is) (one c.first_text.ensures rest) in
    subst (Parted whole) (put_last c.loop-left.found.items text ts ∙ ap (λ (f : List (Bor (List ℕ))). map (λ x. x.now) f ++ ts) (sym pushed)) (c.loop-left.invariant (text.now ∷ ts) more)

pub returns : goal.returns
returns c =
    let end = subst (λ (o : Option (Bor (List ℕ))). Parted (option_map (λ x. x.now) o) []) (sym c.in_default.is) none in
    subst (Parted (option_map (λ x. x.now) c.args.texts)) (append-nil (map (λ x. x.now) c.loop-left.found.items)) (c.loop-left.invariant [] end)
