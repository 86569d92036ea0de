-- How many branch numbers a job has: at least one, and at most 81.
use Rattle.std.proofs.Common.{◌≡◌, ℕ, zero, suc, ◌-◌, ◌*◌, ◌≤◌, length, ap, mul-le-mul, arith}
use Rattle.task.specs.declared.job.Job.{Job}
use Rattle.task.specs.declared.node.Numbering.TheVariants.{Branch}
use Rattle.task.specs.Flaws.{graph}
use Rattle.task.specs.Picks.{numbers, product, ways}
use Rattle.task.proofs.Products.{product_small, ways_few}

product_some : (f : ℕ → ℕ) → ((u : ℕ) → 1 ≤ f u) → (u n : ℕ) → 1 ≤ product f u n
product_some f each u zero = omega arith
product_some f each u (suc n) =
    let rec = product_some f each (suc u) n in
    let both : 1 * 1 ≤ f u * product f (suc u) n = mul-le-mul (each u) rec in
    omega arith

pub branches_some : (j : Job) → 1 ≤ numbers Branch (graph j)
branches_some j = product_some (ways Branch (graph j)) (λ u. (ways_few Branch (graph j) j.forked u).0) 0 (length (graph j))

pub branches_few : (j : Job) → numbers Branch (graph j) ≤ 81
branches_few j =
    let all = product_small Branch (graph j) j.forked j.few 0 (omega arith) in
    let e : length (graph j) - 0 ≡ length (graph j) = omega arith in
    let same = ap (product (ways Branch (graph j)) 0) e in
    omega arith
