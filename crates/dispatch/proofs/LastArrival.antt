-- When a job arrived last, by its slot.
use Rattle.std.proofs.Common.{◌≡◌, ℕ, ◌==◌, List, [], ◌∷◌, map, Option, Some, None, refl, inl, inr}
use Rattle.std.proofs.lemmas.Bool.{cases_Bool}
use Rattle.std.specs.List.{find}
use Rattle.dispatch.specs.declared.slot.Slot.{Slot}
use Rattle.dispatch.specs.Table.{arrived_last, last_shown, newest, slot_shown}

newest_shown : (o : Option ℕ) → newest (last_shown o) ≡ o
newest_shown None = refl
newest_shown (Some t) = refl

abbrev pub last_of : Option Slot → Option ℕ
last_of None = None
last_of (Some s) = s.last

pub last_found : (n : ℕ) (ss : List Slot) → arrived_last n (map slot_shown ss) ≡ last_of (find (λ (s : Slot). s.job == n) ss)
last_found n [] = refl
last_found n (s ∷ ss) = elim (cases_Bool (s.job == n)) [
  | inl y ↦ rw y (newest_shown s.last)
  | inr off ↦ rw off (last_found n ss)
]
