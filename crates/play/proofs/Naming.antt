-- The names of calls are those of the table.
use Rattle.std.proofs.Common.{◌≡◌, ℕ, ◌<◌, List, [], ◌∷◌, Option, Some, None, MatchOption, arith, length}
use Rattle.std.specs.List.{AllWithin, HoldsAt}
use Rattle.play.specs.declared.name.Name.{Name}
use Rattle.play.specs.declared.name.Name.TheVariants.{Arrive, Late, Load, Next, Sheet, Start, Stop, Tick, Unload}

abbrev pub names : List Name
names = Load ∷ Unload ∷ Sheet ∷ Start ∷ Arrive ∷ Next ∷ Tick ∷ Late ∷ Stop ∷ []

pub all_named : (No : Name → Type 0) → AllWithin No names 0 (length names) → (n : Name) → No n
all_named No h Load = h 0 Load (omega arith) (omega arith)
all_named No h Unload = h 1 Load (omega arith) (omega arith)
all_named No h Sheet = h 2 Load (omega arith) (omega arith)
all_named No h Start = h 3 Load (omega arith) (omega arith)
all_named No h Arrive = h 4 Load (omega arith) (omega arith)
all_named No h Next = h 5 Load (omega arith) (omega arith)
all_named No h Tick = h 6 Load (omega arith) (omega arith)
all_named No h Late = h 7 Load (omega arith) (omega arith)
all_named No h Stop = h 8 Load (omega arith) (omega arith)

-- what a search of the table finds
abbrev pub Found : (Yes No : Name → Type 0) → Option Name → Type 0
Found Yes No r = MatchOption r (AllWithin No names 0 (length names)) (λ n. Yes n × (i : ℕ) × (i < length names) × HoldsAt (λ m. m ≡ n) names i × AllWithin No names 0 i)

pub named : (Yes No : Name → Type 0) (r : Option Name) → Found Yes No r → MatchOption r ((n : Name) → No n) Yes
named Yes No None h = all_named No h
named Yes No (Some n) h = h.0
