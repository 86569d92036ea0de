-- What claims ask, and what an engine has left beside them, in each number of ticks up to twice a belt cycle.
--   Tabled f xs         beside each of these n the list xs has f n, or 65,535 if that is less
--   Leaves s cs room    beside each of these n the room has the least that is too much to ask in n ticks of the supply s, beside the claims cs
use Rattle.std.specs.Prelude.{◌≡◌, ℕ, ◌+◌, ◌-◌, ◌≤◌, min, List, slice_index}
use Rattle.claim.specs.declared.claim.Claim.{Claim}
use Rattle.fit.specs.declared.room.Room.{Room}
use Rattle.fit.specs.Fits.{given_of_all}

abbrev pub Tabled : (ℕ → ℕ) → List ℕ → Type 0
Tabled f xs = (n : ℕ) → n ≤ 28800 → slice_index xs n ≡ min (f n) 65535

abbrev pub Leaves : (ℕ → ℕ) → List Claim → Room → Type 0
Leaves s cs room = (n : ℕ) → n ≤ 28800 → slice_index room.too_much n ≡ s n + 1 - given_of_all cs n
