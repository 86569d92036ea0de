-- How many numbers there are: the product of the ways at each node, which is at most 81.
use Rattle.std.proofs.Common.{◌≡◌, ℕ, zero, suc, ◌+◌, ◌-◌, ◌*◌, ◌^◌, ◌<◌, ◌≤◌, Bool, true, cond, ◌&&◌, leb, List, length, refl, ap, inl, inr, mul-le-mul_right, mul_assoc, mul-le-mul_left, one-mul, pow-suc, arith}
use native.Mathlib.Nat.{pow-le-pow_right}
use Rattle.std.proofs.lemmas.Bool.{and_parts, cases_Bool, leb-true}
use Rattle.std.proofs.lemmas.Bool.Decides.{nat_tests}
use Rattle.task.specs.declared.node.Node.{Node}
use Rattle.task.specs.declared.node.Node.TheVariants.{SubTask, Alternative, Conditional}
use Rattle.task.specs.declared.node.Numbering.{Numbering}
use Rattle.task.specs.declared.node.Numbering.TheVariants.{Choice, Branch}
use Rattle.task.specs.Graph.{at, count_below, ins, outs}
use Rattle.task.specs.Node.{covers, is_fork}
use Rattle.task.specs.Nodes.{ForksFit, few_forks}
use Rattle.task.specs.Picks.{product, ways}

pub product_step : (f : ℕ → ℕ) (len u : ℕ) → 0 < u → u ≤ len → product f (u - 1) (len - (u - 1)) ≡ f (u - 1) * product f u (len - u)
product_step f len zero some inside = absurd (omega arith)
product_step f len (suc w) some inside =
    let e : suc w - 1 ≡ w = omega arith in
    let g : len - w ≡ suc (len - suc w) = omega arith in
    rw (e, g) refl

fork_few : (m : Numbering) (n : Node) (i o : ℕ) → cond (is_fork n) (leb 1 i && (leb 2 o && leb o 3)) true ≡ true → (1 ≤ cond (covers m n) o 1) × (cond (covers m n) o 1 ≤ 3)
fork_few Choice (SubTask tag ticks nodes) i o h = (omega arith, omega arith)
fork_few Choice (Alternative nodes) i o h = (grind (arith, nat_tests), grind (arith, nat_tests))
fork_few Choice (Conditional nodes) i o h = (omega arith, omega arith)
fork_few Branch (SubTask tag ticks nodes) i o h = (omega arith, omega arith)
fork_few Branch (Alternative nodes) i o h = (omega arith, omega arith)
fork_few Branch (Conditional nodes) i o h = (grind (arith, nat_tests), grind (arith, nat_tests))

pub ways_few : (m : Numbering) (ns : List Node) → ForksFit ns → (u : ℕ) → (1 ≤ ways m ns u) × (ways m ns u ≤ 3)
ways_few m ns fit u = fork_few m (at ns u) (ins ns u) (outs ns u) (fit u)

one_more : (w p x y : ℕ) → w ≤ 3 → p * (x * 3) ≤ y → (w * p) * x ≤ y
one_more w p x y few rest =
    omega (arith, mul_assoc w p x, mul_assoc p x 3, mul-le-mul_right (p * x) few)

-- each covered node below doubles or trebles the numbers
product_few : (m : Numbering) (ns : List Node) → ForksFit ns → (u n : ℕ)
    → product (ways m ns) u n * 3 ^ count_below (λ v. covers m (at ns v)) u ≤ 3 ^ count_below (λ v. covers m (at ns v)) (u + n)
product_few m ns fit u zero =
    let e : u + 0 ≡ u = omega arith in
    rw e (omega arith)
product_few m ns fit u (suc n) =
    let p : ℕ → Bool = λ v. covers m (at ns v) in
    let rec = product_few m ns fit (suc u) n in
    let e : u + suc n ≡ suc u + n = omega arith in
    let end = ap (λ k. 3 ^ count_below p k) e in
    elim (cases_Bool (covers m (at ns u))) [
      | inl yes' ↦
          let more : count_below p (suc u) ≡ suc (count_below p u) = rw yes' (omega arith) in
          let here = ap (λ k. product (ways m ns) (suc u) n * 3 ^ k) more in
          let cube = ap (λ k. product (ways m ns) (suc u) n * k) (pow-suc 3 (count_below p u)) in
          let all = one_more (ways m ns u) (product (ways m ns) (suc u) n) (3 ^ count_below p u) (3 ^ count_below p (suc u + n)) (ways_few m ns fit u).1 (omega arith) in
          omega arith
      | inr no' ↦
          let same : count_below p (suc u) ≡ count_below p u = rw no' (omega arith) in
          let here = ap (λ k. product (ways m ns) (suc u) n * 3 ^ k) same in
          let one : ways m ns u ≡ 1 = rw no' refl in
          let there = ap (λ k. k * product (ways m ns) (suc u) n * 3 ^ count_below p u) one in
          let alone = ap (λ k. k * 3 ^ count_below p u) (one-mul (product (ways m ns) (suc u) n)) in
          omega arith
    ]

few_count : (m : Numbering) (ns : List Node) → few_forks ns ≡ true → count_below (λ v. covers m (at ns v)) (length ns) ≤ 4
few_count Choice ns few = leb-true _ 4 (and_parts _ _ few).0
few_count Branch ns few = leb-true _ 4 (and_parts _ _ few).1

pub product_small : (m : Numbering) (ns : List Node) → ForksFit ns → few_forks ns ≡ true → (u : ℕ) → u ≤ length ns → product (ways m ns) u (length ns - u) ≤ 81
product_small m ns fit few u inside =
    let p : ℕ → Bool = λ v. covers m (at ns v) in
    let all = product_few m ns fit u (length ns - u) in
    let e : u + (length ns - u) ≡ length ns = omega arith in
    let end = ap (λ k. 3 ^ count_below p k) e in
    let top = pow-le-pow_right {n = 3} (omega arith) (few_count m ns few) in
    let some : 1 ≤ 3 ^ count_below p u = pow-le-pow_right {n = 3} (omega arith) {i = 0} {j = count_below p u} (omega arith) in
    let one = mul-le-mul_left (product (ways m ns) u (length ns - u)) some in
    omega arith
