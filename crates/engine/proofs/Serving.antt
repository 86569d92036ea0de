-- What a course answers.
use Rattle.std.proofs.Common.{◌≡◌, ℕ, ◌+◌, ◌*◌, ◌/◌, ◌%◌, ◌<◌, ◌≤◌, length, get_or, ap, ◌∙◌, mod-lt, arith}
use Rattle.cyclic.specs.Fewest.{fewest}
use Rattle.cyclic.specs.Ones.{ones}
use Rattle.cyclic.specs.FewestLaws.{fewest_few, fewest_parted, fewest_whole}
use Rattle.engine.specs.declared.course.Course.{Course}
use Rattle.engine.specs.Course.{served}

module _ (c : Course) where
  pub quota_is : (n : ℕ) → n ≡ length (served c) → get_or c.least n 0 ≡ ones (served c) 0 (length (served c))
  quota_is n whole = ap (λ (k : ℕ). get_or c.least k 0) whole ∙ (c.tabled (length (served c)) (omega arith) ∙ fewest_whole (served c) c.round.some)

  pub supply_is : (n p q : ℕ) → p ≡ length (served c) → q ≡ ones (served c) 0 (length (served c)) → n / p * q + get_or c.least (n % p) 0 ≡ fewest (served c) n
  supply_is n p q cycle quota =
      let some : 0 < p = omega (arith, c.round.some) in
      let low = mod-lt n some in
      let here = c.tabled (n % p) (omega arith) in
      let parted = fewest_parted (served c) c.round.some n in
      let turns = ap (λ (k : ℕ). n / k * q) cycle in
      let turns' = ap (λ (k : ℕ). n / length (served c) * k) quota in
      let rest = ap (λ (k : ℕ). fewest (served c) (n % k)) cycle in
      omega arith

  pub supply_few : (n : ℕ) → fewest (served c) n ≤ n
  supply_few n = fewest_few (served c) c.round.some n
