-- A stretch of numbers of ticks in which a claim asks the same.
--   Spans a n       the plateau a speaks of n ticks
--   Level f a       in all numbers of ticks that it speaks of, f is what it says
--   higher a b      the higher one of two, and of two as high the one that begins earlier
use Rattle.std.specs.Prelude.{◌≡◌, ℕ, ◌≤◌, ◌&&◌, ◌||◌, cond, nat_eq, nat_lt}
use Rattle.claim.specs.declared.plateau.Plateau.{Plateau}

abbrev pub Spans : Plateau → ℕ → Type 0
Spans a n = (a.since ≤ n) × (n ≤ a.until)

abbrev pub Level : (ℕ → ℕ) → Plateau → Type 0
Level f a = (n : ℕ) → Spans a n → f n ≡ a.most

abbrev pub higher : Plateau → Plateau → Plateau
higher a b = cond (nat_lt a.most b.most || (nat_eq a.most b.most && nat_lt b.since a.since)) b a
