-- Sums of marks, and the fewest in a row by them.
use Rattle.std.proofs.Common.{◌≡◌, ℕ, ◌+◌, ◌-◌, ◌<◌, ◌≤◌, Bool, List, length, get_or, Option, Some, None, MatchOption, unwrap_or, refl, ap, zero-add, arith}
use Rattle.std.specs.Option.{IfSome}
use Rattle.cyclic.specs.Ones.{ones}
use Rattle.cyclic.specs.Fewest.{fewest}
use Rattle.cyclic.specs.OnesLaws.{ones_join}
use Rattle.cyclic.specs.FewestLaws.{fewest_at, fewest_le}

pub difference : (marks : List Bool) (i n a b : ℕ) → a ≡ ones marks 0 (i + n) → b ≡ ones marks 0 i → (b ≤ a) × (a - b ≡ ones marks i n)
difference marks i n a b is is' =
    let join = ones_join marks 0 i n in
    let place = ap (λ (j : ℕ). ones marks j n) (zero-add i) in
    (omega arith, omega arith)

-- what some start has and no start is below
pub fewest_least : (marks : List Bool) (n m : ℕ) → (i : ℕ) × (i < length marks) × (ones marks i n ≡ m) → ((i : ℕ) → i < length marks → m ≤ ones marks i n) → m ≡ fewest marks n
fewest_least marks n m found all =
    let (i, low, is) = found in
    let some : 1 ≤ length marks = omega arith in
    let here = fewest_at marks some n i low in
    let below = fewest_le marks some n m all in
    omega arith

-- the least over all starts; a number of the table is named beside each start, so that a search sees the start
pub fewest_of : (marks : List Bool) (n len : ℕ) (table : List ℕ) (o : Option ℕ) → 1 ≤ length marks → len ≡ length marks → MatchOption o (len ≡ 0) (λ m. (i : ℕ) × (i < len) × (ones marks i n ≡ m)) → IfSome o (λ m. (i x : ℕ) → x ≡ get_or table i 0 → i < len → m ≤ ones marks i n) → unwrap_or o 0 ≡ fewest marks n
fewest_of marks n len table None some long found low = absurd (omega arith)
fewest_of marks n len table (Some m) some long found low = fewest_least marks n m (found.0, omega (arith, found.1), found.2) (λ i below. low i (get_or table i 0) refl (omega arith))
