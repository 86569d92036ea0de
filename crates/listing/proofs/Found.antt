-- The job that was loaded last is found by its number.
use Rattle.std.proofs.Common.{◌≡◌, ℕ, false, eqb, List, [], ◌∷◌, ◌++◌, Option, Some, None, refl, ap, ◌∙◌, Bor}
use Rattle.std.specs.Option.{IsSome, option_map}
use Rattle.std.proofs.lemmas.Bool.{eq-eqb, ne_eqb}
use Rattle.std.proofs.lemmas.List.Elements.{All-head, All-tail}
use Rattle.std.proofs.lemmas.Option.{none-some}
use Rattle.board.specs.Loading.{Free}
use Rattle.board.specs.Residents.{resident_of}
use Rattle.resident.specs.declared.resident.Resident.{Resident}
use Rattle.resident.specs.Resident.{number_of}

put_last : (rs : List Resident) (r : Resident) → Free rs (number_of r) → resident_of (rs ++ r ∷ []) (number_of r) ≡ Some r
put_last [] r free = rw (eq-eqb (number_of r) (number_of r) refl) refl
put_last (q ∷ rs) r free =
    let other : eqb (number_of q) (number_of r) ≡ false = ne_eqb (number_of q) (number_of r) (All-head (λ x. number_of x ≡ number_of r → ⊥) q rs free) in
    rw other (put_last rs r (All-tail (λ x. number_of x ≡ number_of r → ⊥) q rs free))

pub resident_put : (rs : List Resident) (r : Resident) (n : ℕ) → Free rs (number_of r) → n ≡ number_of r → resident_of (rs ++ r ∷ []) n ≡ Some r
resident_put rs r n free is = ap (resident_of (rs ++ r ∷ [])) is ∙ put_last rs r free

pub some_borrowed : {X : Type 0} (o : Option (Bor X)) (x : X) → option_map (λ y. y.now) o ≡ Some x → IsSome o
some_borrowed None x is = absurd (none-some x is)
some_borrowed (Some y) x is = refl
