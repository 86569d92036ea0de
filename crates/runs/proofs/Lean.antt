-- As little as a supply allows.
use Rattle.std.proofs.Common.{◌≡◌, ℕ, zero, suc, ◌+◌, ◌-◌, ◌≤◌, min, Bool, true, false, cond, nat_eq, nat_lt, ap, inl, inr, arith}
use Rattle.std.proofs.lemmas.Bool.{cases_lt, le-ltb, lt-ltb}
use Rattle.std.proofs.lemmas.Bool.Decides.{nat_tests}
use Rattle.runs.specs.Runs.{Lawful}

-- how little may be served: all before x, and then as little as the supply allows
abbrev pub lean : (ℕ → ℕ) → ℕ → ℕ → Bool
lean s x t = cond (nat_lt t x) true (nat_eq (s (t - x + 1)) (s (t - x) + 1))

-- served before k
abbrev pub level : (ℕ → ℕ) → ℕ → ℕ → ℕ
level s x k = min k x + s (k - x)

module _ (s : ℕ → ℕ) (ok : Lawful s) (x : ℕ) where
  pub level_more : (t : ℕ) → level s x (t + 1) ≡ level s x t + cond (lean s x t) 1 0
  level_more t = elim (cases_lt t x) [
    | inl l ↦
        let y : nat_lt t x ≡ true = lt-ltb _ _ l in
        let a : t + 1 - x ≡ t - x = omega arith in
        rw (y, a) (omega arith)
    | inr l ↦
        let off : nat_lt t x ≡ false = le-ltb _ _ l in
        let a : t + 1 - x ≡ t - x + 1 = omega arith in
        let g = ok.grows (t - x) in
        let o = ok.by_one (t - x) in
        rw (off, a) (grind (arith, nat_tests))
  ]

  slow : (m n : ℕ) → s (m + n) ≤ m + s n
  slow zero n = let e : 0 + n ≡ n = omega arith in omega (arith, ap s e)
  slow (suc m) n =
      let e : suc m + n ≡ m + n + 1 = omega arith in
      let rec = slow m n in
      omega (arith, ap s e, ok.by_one (m + n))

  pub level_supply : (a n : ℕ) → s n + level s x a ≤ level s x (a + n)
  level_supply a n = elim (cases_lt a x) [
    | inr l ↦
        let e : a - x + n ≡ a + n - x = omega arith in
        omega (arith, ok.joins (a - x) n, ap s e)
    | inl l ↦
        let z : a - x ≡ 0 = omega arith in
        elim (cases_lt x (a + n)) [
          | inr k ↦
              let none : a + n - x ≡ 0 = omega arith in
              let e : n + 0 ≡ n = omega arith in
              omega (arith, ap s z, ap s none, ok.none, slow n 0, ap s e)
          | inl k ↦
              let e : (x - a) + (a + n - x) ≡ n = omega arith in
              omega (arith, ap s z, ok.none, slow (x - a) (a + n - x), ap s e)
        ]
  ]
