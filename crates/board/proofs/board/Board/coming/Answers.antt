use Rattle.std.proofs.Common.{rules, ◌≡◌, ℕ, arith}
use Rattle.board.proofs.board.Board.coming.Goals as goal

pub returns-then-not-is_free : goal.returns-then-not-is_free
returns-then-not-is_free g c =
    λ ruled. (
      c.in_ok-job.job,
      c.in_ok-job.ensures,
      λ free.
          let is = c.is_free.ensures.1 free in
          let no' = c.if-not-is_free.true in
          absurd (let z : ◌≡◌ {A = ℕ} 0 1 = cc in omega arith),
    )

pub returns-then-as_slice-eq-RESIDENTS : goal.returns-then-as_slice-eq-RESIDENTS
returns-then-as_slice-eq-RESIDENTS g c =
    λ ruled. (c.in_ok-job.job, c.in_ok-job.ensures, search rules, search rules)
