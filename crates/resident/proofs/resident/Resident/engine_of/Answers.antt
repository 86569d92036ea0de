use Rattle.std.proofs.Common.{rules, ◌≡◌, ℕ, Bool, eqb, List, [], ◌∷◌, Some, None, Option, refl, ap, ◌∙◌, Bor, inl, inr}
use Rattle.few.specs.Few.{items}
use Rattle.resident.specs.declared.resident.Seat.{Seat}
use Rattle.resident.specs.Resident.{engine_among}
use Rattle.std.specs.List.{find}
use Rattle.std.specs.Option.{option_map, MatchOption, IsSomeAnd}
use Rattle.std.proofs.lemmas.Bool.{cases_Bool}
use Rattle.std.proofs.lemmas.Iterator.{YieldsList-from_slice}
use Rattle.std.proofs.lemmas.Iterator.Search.{find_from_yields_List}
use Rattle.resident.proofs.resident.Resident.engine_of.Goals as goal

engine_found : (ss : List Seat) (g : ℕ) → option_map (λ s. s.engine) (find (λ s. eqb s.tag g) ss) ≡ engine_among ss g
engine_found [] g = refl
engine_found (s ∷ ss) g = elim (cases_Bool (eqb s.tag g)) [
  | inl yes' ↦ rw yes' refl
  | inr no' ↦ rw no' (engine_found ss g)
]

-- what a closure made of what was found
made : (P : Bor Seat → ℕ → Type 0) (f : Seat → ℕ) → ((x : Bor Seat) (y : ℕ) → P x y → y ≡ f x.now) → (o : Option (Bor Seat)) (r : Option ℕ)
    → MatchOption o (r ≡ None) (λ x. IsSomeAnd r (P x)) → r ≡ option_map f (option_map (λ x. x.now) o)
made P f gives None r is = is
made P f gives (Some x) None is = absurd is
made P f gives (Some x) (Some y) is = ap Some (gives x y is)

pub returns : goal.returns
returns c =
    let ss = items c.args.self.now.seats in
    let test : Seat → Bool = λ s. eqb s.tag c.args.tag in
    let found = find_from_yields_List test _ _ c.find.result c.find.ensures.ran (YieldsList-from_slice ss (search rules)) (λ x b q k. (search rules, search rules)) in
    made _ (λ (s : Seat). s.engine) (λ x y k. search rules) c.find.result c.map.result c.map.ensures.cases ∙ ap (option_map (λ (s : Seat). s.engine)) found ∙ engine_found ss c.args.tag
