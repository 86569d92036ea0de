-- A mark as a number.
use Rattle.std.proofs.Common.{◌≡◌, ℕ, ◌%◌, Bool, true, false, cond, List, length, get_or, refl}
use mir.Val.{bool_byte}
use Rattle.cyclic.specs.Ones.{mark}

as_byte : (b : Bool) → bool_byte b ≡ cond b 1 0
as_byte true = refl
as_byte false = refl

pub mark_is : (marks xs : List Bool) (n k : ℕ) → xs ≡ marks → n ≡ length marks → bool_byte (get_or xs (k % n) false) ≡ mark marks k
unfolding mark
mark_is marks xs n k same long = rw (same, long) (as_byte (get_or marks (k % length marks) false))
