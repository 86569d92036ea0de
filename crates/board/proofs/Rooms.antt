-- What is known of what engines have left.
use Rattle.std.proofs.Common.{◌≡◌, ℕ, ◌<◌, List, [], Option, Some, None, length, get_or, set, refl, sym, ap, ◌∙◌, subst, inl, inr}
use Rattle.std.specs.Prelude.{IfSome, slice_get}
use Rattle.std.proofs.lemmas.Bool.{cases_eq}
use Rattle.std.proofs.lemmas.Option.{none-some, slice_get-get_or}
use Rattle.board.specs.Asked.{claims_on}
use Rattle.board.specs.Placing.{RoomsOn}
use Rattle.fit.specs.declared.room.Room.{Room}
use Rattle.fit.specs.Room.{Leaves}
use Rattle.fit.proofs.Keeping.{set_other, set_same}
use Rattle.resident.specs.declared.resident.Resident.{Resident}

module _ (supply : ℕ → ℕ → ℕ) (rs : List Resident) where
  abbrev Known : ℕ → Option Room → Type 0
  Known e o = IfSome o (Leaves (supply e) (claims_on rs e))

  pub none_known : RoomsOn supply rs []
  none_known e room at = absurd (none-some (Some room) at)

  pub room_at : (rooms : List (Option Room)) → RoomsOn supply rs rooms → (e : ℕ) → e < length rooms → Known e (get_or rooms e None)
  room_at rooms on e below = go (get_or rooms e None) refl where
    go : (o : Option Room) → get_or rooms e None ≡ o → Known e o
    go None is = tt
    go (Some room) is = on e room (slice_get-get_or rooms e None below ∙ ap Some is)

  known_is : (e : ℕ) (o : Option Room) (room : Room) → o ≡ Some room → Known e o → Leaves (supply e) (claims_on rs e) room
  known_is e o room is known = subst (Known e) is known

  pub room_set : (rooms : List (Option Room)) → RoomsOn supply rs rooms → (e : ℕ) (o : Option Room) → Known e o → RoomsOn supply rs (set rooms e o)
  room_set rooms on e o known k room at = elim (cases_eq k e) [
    | inl here ↦
        let same : o ≡ Some room = set_same rooms e o (Some room) (ap (slice_get (set rooms e o)) (sym here) ∙ at) in
        subst (λ (x : ℕ). Leaves (supply x) (claims_on rs x) room) (sym here) (known_is e o room same known)
    | inr other ↦ on k room (sym (set_other rooms e k o other) ∙ at)
  ]
