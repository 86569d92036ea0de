-- Bytes that are written into a buffer.
--   Writes bs old n new    the bytes bs stand first in the buffer, the others are as they were, and n is how many bs are; or bs do not fit, the buffer is as it was, and n is minus how many bs are, which is above the least number of 64 bits
use Rattle.std.specs.Prelude.{ℕ, ◌<◌, ◌≤◌, ◌^◌, List, ◌++◌, drop, length, ℤ, pos, neg_ℤ}

pub data Writes (bs old : List ℕ) : ℤ → List ℕ → Type 0 where
  fits : length bs ≤ length old → Writes bs old (pos (length bs)) (bs ++ drop (length bs) old)
  short : length old < length bs → length bs < 2 ^ 63 → Writes bs old (neg_ℤ (pos (length bs))) old
