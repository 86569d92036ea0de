-- Lists in an order: before x y says that x comes before y.
--   put before x list      x put into the list, in front of the first that it comes before
--   sorted before list     each put in
--   InOrder before list    none comes before one that stands earlier
use Rattle.std.specs.Prelude.{◌≡◌, Bool, false, cond, List, [], ◌∷◌}
use Rattle.std.specs.List.{AllByRecursion}

abbrev pub put : {X : Type 0} → (X → X → Bool) → X → List X → List X
put before x [] = x ∷ []
put before x (y ∷ ys) = cond (before x y) (x ∷ (y ∷ ys)) (y ∷ put before x ys)

abbrev pub sorted : {X : Type 0} → (X → X → Bool) → List X → List X
sorted before [] = []
sorted before (x ∷ xs) = put before x (sorted before xs)

abbrev pub InOrder : {X : Type 0} → (X → X → Bool) → List X → Type 0
InOrder before [] = Unit {0}
InOrder before (x ∷ xs) = AllByRecursion (λ y. before y x ≡ false) xs × InOrder before xs
