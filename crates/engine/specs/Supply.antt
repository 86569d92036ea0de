-- What a supply keeps: s n is the least ticks that an engine serves in any n ticks in a row.
--   Lawful s cycle quota        the laws of one engine
--   NoneServed s cycle quota    an engine that does not exist
use Rattle.std.specs.Prelude.{◌≡◌, ℕ, ◌+◌, ◌%◌, ◌≤◌}

pub record Lawful (s : ℕ → ℕ) (cycle quota : ℕ) : Type 0 where
  pub some : 1 ≤ cycle
  pub divides : 14400 % cycle ≡ 0
  pub none : s 0 ≡ 0
  pub grows : (n : ℕ) → s n ≤ s (n + 1)
  pub by_one : (n : ℕ) → s (n + 1) ≤ s n + 1
  pub joins : (a b : ℕ) → s a + s b ≤ s (a + b)
  pub repeats : (n : ℕ) → s (n + cycle) ≡ s n + quota

pub record NoneServed (s : ℕ → ℕ) (cycle quota : ℕ) : Type 0 where
  pub idle : (n : ℕ) → s n ≡ 0
  pub one : cycle ≡ 1
  pub nothing : quota ≡ 0
