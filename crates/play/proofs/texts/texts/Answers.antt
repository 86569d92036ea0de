use Rattle.std.proofs.Common.{rules, ◌≡◌, ℕ, List, [], ◌∷◌, ◌++◌, Bor, Option, map, ap, sym, subst, ◌∙◌, append_assoc, append-nil}
use Rattle.std.proofs.lemmas.List.{map-append}
use Rattle.play.specs.Texts.{Texts, none, one}
use Rattle.std.specs.Option.{option_map}
use Rattle.play.proofs.texts.texts.Goals as goal

abbrev bytes : List (Bor (List ℕ)) → List (List ℕ)
bytes xs = map (λ (x : Bor (List ℕ)). x.now) xs

bytes_push : (xs : List (Bor (List ℕ))) (x : Bor (List ℕ)) (ts : List (List ℕ)) → bytes (xs ++ x ∷ []) ++ ts ≡ bytes xs ++ x.now ∷ ts
bytes_push xs x ts = ap (λ ys. ys ++ ts) (map-append (λ (y : Bor (List ℕ)). y.now) xs (x ∷ [])) ∙ append_assoc (bytes xs) (x.now ∷ []) ts

pub loop-left-preserved : goal.loop-left-preserved
loop-left-preserved c = λ ts rest.
    let was = c.loop-left.texts.items in
    let text = c.first_text.result.0 in
    let put : c.push.new.self.items ≡ was ++ text ∷ [] = search rules in
    let left = subst (λ (o : Option (Bor (List ℕ))). Texts (option_map (λ x. x.now) o) (text.now ∷ ts)) (sym c.in-Some.is) (one c.first_text.ensures rest) in
    subst (Texts (option_map (λ x. x.now) c.args.papers)) (sym (ap (λ xs. bytes xs ++ ts) put ∙ bytes_push was text ts)) (c.loop-left.invariant (text.now ∷ ts) left)

pub returns : goal.returns
returns c =
    let end = subst (λ (o : Option (Bor (List ℕ))). Texts (option_map (λ x. x.now) o) []) (sym c.in_default.is) none in
    subst (Texts (option_map (λ x. x.now) c.args.papers)) (append-nil (bytes c.loop-left.texts.items)) (c.loop-left.invariant [] end)
