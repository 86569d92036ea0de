use Rattle.std.proofs.Common.{◌≡◌, ℕ, ◌+◌, ◌-◌, ◌≤◌, length, get_or, arith}
use Rattle.cyclic.specs.Ones.{ones}
use Rattle.engine.specs.Marks.{marked}
use Rattle.engine.specs.declared.sums.Sums.{Sums}
use Rattle.engine.proofs.Summing.{difference}
use Rattle.engine.proofs.sums.Sums.ones.Goals as goal

both : (s : Sums) (i n : ℕ) → i ≤ length (marked s.round.marks) → n ≤ length (marked s.round.marks) → (get_or s.table i 0 ≤ get_or s.table (i + n) 0) × (get_or s.table (i + n) 0 - get_or s.table i 0 ≡ ones (marked s.round.marks) i n)
both s i n low short = difference (marked s.round.marks) i n _ _ (s.summed (i + n) (omega (arith, s.round.short))) (s.summed i (omega (arith, s.round.short)))

pub overflow_sub-result : goal.overflow_sub-result
overflow_sub-result c = (both c.args.self.now c.args.start c.args.n c.requires.0 c.requires.1).0

pub returns : goal.returns
returns c = (both c.args.self.now c.args.start c.args.n c.requires.0 c.requires.1).1
