-- The supply of an engine that serves every tick.
--   whole_supply count e n    n where the engine e is one of count, else 0
use Rattle.std.specs.Prelude.{ℕ, Bool, true, false, cond, nat_lt, refl}
use Rattle.std.proofs.Common.{arith}
use Rattle.engine.specs.Supply.{Lawful}

abbrev pub whole_supply : ℕ → ℕ → ℕ → ℕ
whole_supply count e n = cond (nat_lt e count) n 0

laws_if : (b : Bool) → Lawful (λ n. cond b n 0) 1 (cond b 1 0)
laws_if true = record { some = omega arith; divides = refl; none = refl; grows = λ n. omega arith; by_one = λ n. omega arith; joins = λ a b. omega arith; repeats = λ n. refl }
laws_if false = record { some = omega arith; divides = refl; none = refl; grows = λ n. omega arith; by_one = λ n. omega arith; joins = λ a b. omega arith; repeats = λ n. omega arith }

pub whole_laws : (count e : ℕ) → Lawful (whole_supply count e) 1 (whole_supply count e 1)
whole_laws count e = laws_if (nat_lt e count)
