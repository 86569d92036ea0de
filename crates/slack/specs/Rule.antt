-- Where a sub-task stands, and what a slack rule keeps.
--   Bounds p        the six numbers of p can be those of a sub-task
--   bounded p       the test for that
--   Lawful local    outside the bounds, local gives the deadline of the job;
--                   inside, no less than the head and no more than the deadline of the job;
--                   and of two sub-tasks of one graph, where v's head is c ticks more than u's, u's tail c ticks
--                   more than v's and v's level higher, v is due at least c ticks after u
use Rattle.std.specs.Prelude.{◌≡◌, ℕ, ◌+◌, ◌<◌, ◌≤◌, Bool, ◌&&◌, nat_le}
use Rattle.slack.specs.declared.rule.Position.{Position}

pub record Bounds (p : Position) : Type 0 where
  pub worked : 1 ≤ p.head
  pub spanned : p.head + p.tail ≤ p.span
  pub timely : p.span ≤ p.deadline
  pub cyclic : p.deadline ≤ 14400
  pub levelled : 1 ≤ p.level
  pub reached : p.level ≤ p.depth
  pub shallow : p.depth ≤ 24

abbrev pub bounded : Position → Bool
bounded p =
    nat_le 1 p.head
    && (nat_le (p.head + p.tail) p.span
    && (nat_le p.span p.deadline
    && (nat_le p.deadline 14400
    && (nat_le 1 p.level
    && (nat_le p.level p.depth
    && nat_le p.depth 24)))))

pub record Lawful (local : Position → ℕ) : Type 0 where
  pub outside : (p : Position) → (Bounds p → ⊥) → local p ≡ p.deadline
  pub inside : (p : Position) → Bounds p → (p.head ≤ local p) × (local p ≤ p.deadline)
  pub spaced : (u v : Position) → Bounds u → Bounds v
      → u.deadline ≡ v.deadline → u.span ≡ v.span → u.depth ≡ v.depth
      → (c : ℕ) → 1 ≤ c → u.head + c ≤ v.head → v.tail + c ≤ u.tail → u.level < v.level
      → local u + c ≤ local v
