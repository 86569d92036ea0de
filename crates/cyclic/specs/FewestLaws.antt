-- Laws of the fewest true marks among so many in a row.
use Rattle.std.specs.Prelude.{◌≡◌, ℕ, zero, suc, ◌+◌, ◌-◌, ◌*◌, ◌/◌, ◌%◌, ◌<◌, ◌≤◌, Bool, List, length}
use Rattle.std.proofs.Common.{sym, ap, ◌∙◌, zero-add, mod-lt, div-add-mod'}
use native.Mathlib.Omega.{arith}
use Rattle.cyclic.specs.Ones.{ones}
use Rattle.cyclic.specs.Fewest.{fewest}
use Rattle.cyclic.specs.OnesLaws.{mark_one, ones_none, ones_more, ones_join, ones_mod, ones_whole, ones_few}
use Rattle.cyclic.specs.LeastLaws.{least_at, least_found}

module _ (marks : List Bool) (some : 1 ≤ length marks) where
  pub fewest_at : (n i : ℕ) → i < length marks → fewest marks n ≤ ones marks i n
  unfolding fewest
  fewest_at n i low = least_at (λ j. ones marks j n) (length marks - 1) i (omega arith)

  pub fewest_any : (n i : ℕ) → fewest marks n ≤ ones marks i n
  fewest_any n i =
      let low = mod-lt i some in
      let here = fewest_at n (i % length marks) low in
      let same = ones_mod marks i n in
      omega arith

  pub fewest_found : (n : ℕ) → (i : ℕ) × (i < length marks) × (ones marks i n ≡ fewest marks n)
  unfolding fewest
  fewest_found n =
      let (i, low, is) = least_found (λ j. ones marks j n) (length marks - 1) in
      (i, omega arith, is)

  -- what no start is below, it is not below either
  pub fewest_le : (n m : ℕ) → ((i : ℕ) → i < length marks → m ≤ ones marks i n) → m ≤ fewest marks n
  fewest_le n m all =
      let (i, low, is) = fewest_found n in
      omega (arith, all i low)

  pub fewest_none : fewest marks 0 ≡ 0
  fewest_none =
      let (i, low, is) = fewest_found 0 in
      omega (arith, ones_none marks i)

  pub fewest_grows : (n : ℕ) → fewest marks n ≤ fewest marks (n + 1)
  fewest_grows n =
      let (i, low, is) = fewest_found (n + 1) in
      let here = fewest_at n i low in
      let more = ones_more marks i n in
      omega arith

  pub fewest_by_one : (n : ℕ) → fewest marks (n + 1) ≤ fewest marks n + 1
  fewest_by_one n =
      let (i, low, is) = fewest_found n in
      let here = fewest_at (n + 1) i low in
      let more = ones_more marks i n in
      let one = mark_one marks (i + n) in
      omega arith

  pub fewest_joins : (a b : ℕ) → fewest marks a + fewest marks b ≤ fewest marks (a + b)
  fewest_joins a b =
      let (i, low, is) = fewest_found (a + b) in
      let front = fewest_at a i low in
      let back = fewest_any b (i + a) in
      let join = ones_join marks i a b in
      omega arith

  turn_more : (i n : ℕ) → ones marks i (n + length marks) ≡ ones marks i n + ones marks 0 (length marks)
  turn_more i n =
      let join = ones_join marks i n (length marks) in
      let whole = ones_whole marks (i + n) in
      omega arith

  pub fewest_repeats : (n : ℕ) → fewest marks (n + length marks) ≡ fewest marks n + ones marks 0 (length marks)
  fewest_repeats n =
      let (i, low, is) = fewest_found n in
      let (j, low', is') = fewest_found (n + length marks) in
      let up = fewest_at (n + length marks) i low in
      let down = fewest_at n j low' in
      let here = turn_more i n in
      let there = turn_more j n in
      omega arith

  pub fewest_turns : (k r : ℕ) → fewest marks (k * length marks + r) ≡ k * ones marks 0 (length marks) + fewest marks r
  fewest_turns zero r =
      let e : 0 * length marks + r ≡ r = omega arith in
      let same = ap (fewest marks) e in
      omega arith
  fewest_turns (suc k) r =
      let rec = fewest_turns k r in
      let e : suc k * length marks + r ≡ k * length marks + r + length marks = omega arith in
      let same = ap (fewest marks) e in
      let again = fewest_repeats (k * length marks + r) in
      omega arith

  -- the turns, and what is left of the last one
  pub fewest_parted : (n : ℕ) → fewest marks n ≡ n / length marks * ones marks 0 (length marks) + fewest marks (n % length marks)
  fewest_parted n =
      let parted = ap (fewest marks) (sym (div-add-mod' n (length marks))) in
      parted ∙ fewest_turns (n / length marks) (n % length marks)

  pub fewest_whole : fewest marks (length marks) ≡ ones marks 0 (length marks)
  fewest_whole =
      let again = fewest_repeats 0 in
      let none = fewest_none in
      let same = ap (fewest marks) (zero-add (length marks)) in
      omega arith

  pub fewest_few : (n : ℕ) → fewest marks n ≤ n
  fewest_few n =
      let here = fewest_any n 0 in
      let few = ones_few marks 0 n in
      omega arith
