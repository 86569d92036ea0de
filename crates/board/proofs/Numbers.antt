-- The numbers of a board's jobs are apart.
use Rattle.std.proofs.Common.{◌≡◌, ◌≢◌, ℕ, zero, suc, ◌<◌, Bool, true, false, arith, length, take, get_or, List, [], ◌∷◌, ◌++◌, map, Option, nat_eq, Result, Ok, Err, OnErr, OnOk, Some, refl, sym, ap, subst, ◌∙◌}
use Rattle.std.specs.List.{AllByRecursion, IsDistinct, list_any}
use Rattle.std.proofs.lemmas.Bool.{eq-eqb, ne_eqb}
use Rattle.std.proofs.lemmas.List.{map-append}
use Rattle.std.proofs.lemmas.List.Elements.{All-cons, All-head, All-nil, All-tail}
use Rattle.std.proofs.lemmas.Map.Keys.{IsDistinct-prop, IsDistinct-push}
use Rattle.std.proofs.lemmas.Cmp.{nat_eq_equiv}
use Rattle.few.specs.declared.few.Few.{Few}
use Rattle.few.specs.declared.items.Full.{Full}
use Rattle.few.specs.Few.{items}
use Rattle.board.specs.declared.residents.Residents.{Residents}
use Rattle.board.specs.Listed.{listed}
use Rattle.board.specs.Loading.{Free}
use Rattle.resident.specs.declared.resident.Resident.{Resident}
use Rattle.resident.specs.Resident.{number_of}

none_has : (n : ℕ) (rs : List Resident) → Free rs n → list_any (nat_eq n) (map number_of rs) ≡ false
none_has n [] free = refl
none_has n (r ∷ rs) free =
    rw (ne_eqb n (number_of r) (λ is. All-head (λ (x : Resident). number_of x ≢ n) r rs free (sym is))) (none_has n rs (All-tail (λ (x : Resident). number_of x ≢ n) r rs free))

pub none_apart : IsDistinct nat_eq []
unfolding IsDistinct
none_apart = tt

-- one more job, with a number that no other has
pub still_apart : (rs qs : List Resident) (r : Resident) → IsDistinct nat_eq (map number_of rs) → Free rs (number_of r) → qs ≡ rs ++ r ∷ [] → IsDistinct nat_eq (map number_of qs)
still_apart rs qs r apart free is =
    subst (IsDistinct nat_eq) (sym (ap (map number_of) is ∙ map-append number_of rs (r ∷ []))) (IsDistinct-push nat_eq_equiv (map number_of rs) (number_of r) apart (none_has (number_of r) rs free))

-- a list to which a job was added, or which had no place left
pub added_apart : (o : Result (Unit {0}) Full) (old new : Few Resident 16) (r : Resident) → IsDistinct nat_eq (map number_of (items old)) → Free (items old) (number_of r) → OnOk o (items new ≡ items old ++ r ∷ []) → OnErr o (new ≡ old) → IsDistinct nat_eq (map number_of (items new))
added_apart (Ok v) old new r apart free put full = still_apart (items old) (items new) r apart free put
added_apart (Err e) old new r apart free put full = subst (λ (f : Few Resident 16). IsDistinct nat_eq (map number_of (items f))) (sym full) apart

abbrev kept_as : (k : Option (Few Resident 16)) → IsDistinct nat_eq (map number_of (listed k)) → Residents
kept_as k a = record { kept = k; apart = a }

-- the same jobs
same_kept : (k l : Option (Few Resident 16)) → k ≡ l → (a : IsDistinct nat_eq (map number_of (listed k))) (b : IsDistinct nat_eq (map number_of (listed l))) → kept_as k a ≡ kept_as l b
same_kept k l is a b =
    subst (λ (m : Option (Few Resident 16)). (c : IsDistinct nat_eq (map number_of (listed m))) → kept_as k a ≡ kept_as m c) is
    (λ c. ap (kept_as k) (IsDistinct-prop nat_eq (map number_of (listed k)) a c)) b

pub same_when_full : (o : Result (Unit {0}) Full) (old new : Few Resident 16) (rs : Residents) (a : IsDistinct nat_eq (map number_of (items new))) → rs.kept ≡ Some old → OnErr o (new ≡ old) → OnErr o (◌≡◌ {A = Residents} (record { kept = Some new; apart = a }) rs)
same_when_full (Ok v) old new rs a was full = full
same_when_full (Err e) old new rs a was full = same_kept (Some new) rs.kept (ap Some full ∙ sym was) a rs.apart

differ : (x : ℕ) (rs : List Resident) → AllByRecursion (λ y. nat_eq x y ≡ false) (map number_of rs) → (i : ℕ) (d : Resident) → i < length rs → x ≢ number_of (get_or rs i d)
differ x [] all i d low is = omega arith
differ x (r ∷ rs) all zero d low is = let z : ◌≡◌ {A = Bool} false true = sym all.0 ∙ eq-eqb x (number_of r) is in cc
differ x (r ∷ rs) all (suc i) d low is = differ x rs all.1 i d (omega arith) is

-- those before a job have another number
pub before_apart : (rs : List Resident) → IsDistinct nat_eq (map number_of rs) → (i : ℕ) (d : Resident) → i < length rs → Free (take i rs) (number_of (get_or rs i d))
unfolding IsDistinct
before_apart [] apart i d low = absurd (omega arith)
before_apart (r ∷ rs) apart zero d low = All-nil (λ (x : Resident). number_of x ≢ number_of r)
before_apart (r ∷ rs) apart (suc i) d low =
    All-cons (λ (x : Resident). number_of x ≢ number_of (get_or rs i d)) r (take i rs) (differ (number_of r) rs apart.0 i d (omega arith)) (before_apart rs apart.1 i d (omega arith))
