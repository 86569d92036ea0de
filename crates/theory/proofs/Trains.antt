-- The closed form is the greatest demand_in.
use Rattle.std.proofs.Common.{◌≡◌, ℕ, zero, suc, ◌+◌, ◌-◌, ◌<◌, ◌≤◌, List, [], ◌∷◌, length, get_or, sym, refl, ap, inl, inr, arith}
use Rattle.std.specs.List.{AllByRecursion}
use Rattle.std.proofs.lemmas.List.Sums.{sum_by-cons}
use Rattle.std.proofs.ByRecursion.{All-get_or}
use Rattle.std.proofs.lemmas.Bool.{cases_lt}
use Rattle.theory.specs.Pattern.{Pattern, FitsIn, WellFormed, Arrival, From, part, demand_in}
use Rattle.theory.specs.Demand.{best, at_cut, demand}
use Rattle.theory.specs.Theorems.{DemandIsMet, DemandIsGreatest, GreatestIsOne}
use Rattle.theory.proofs.Greatest.{most_at, most_attained}
use Rattle.theory.proofs.Windows.{inner_past, inner_mono, best_at, best_attained}
use Rattle.theory.proofs.Chains.{chain, sum_chain, chain_mono, chain_none, chain_le}

module _ (pat : Pattern) (ok : WellFormed pat) where
  -- what an arrival asks, by how far before the stretch it came and how much of it is left
  part_le : (x y u z : ℕ) (a : Arrival) → a.branch < length pat.branches → u ≤ x - a.time → y - a.time ≤ z → part pat x y a ≤ best pat u z
  part_le x y u z a k p q =
      let m = inner_mono u (x - a.time) (y - a.time) z (get_or pat.branches a.branch []) p q in
      omega (arith, best_at pat ok u z a.branch k)

  -- one that ends before the stretch begins asks nothing
  part_past : (x y : ℕ) (a : Arrival) → a.branch < length pat.branches → a.time + pat.deadline ≤ x → part pat x y a ≡ 0
  part_past x y a k l =
      inner_past pat.deadline (x - a.time) (y - a.time) (get_or pat.branches a.branch [])
      (All-get_or (AllByRecursion (FitsIn pat.deadline)) pat.branches a.branch [] k ok.windows) (omega arith)

  -- arrivals from t on, at the beginning of the stretch or later
  chain_bound : (x y t : ℕ) (arrivals : List Arrival) → From pat t arrivals → demand_in pat arrivals x y ≤ chain pat (length arrivals) (y - t)
  chain_bound x y t [] f = omega arith
  chain_bound x y t (a ∷ rest) (late, k, f) =
      let rec = chain_bound x y (a.time + pat.period) rest f in
      let sooner = chain_mono pat ok (length rest) (y - (a.time + pat.period)) (y - t - pat.period) (omega arith) in
      let here = part_le x y 0 (y - t) a k (omega arith) (omega arith) in
      omega (arith, sum_by-cons (part pat x y) a rest)

  bound_at : (n x t : ℕ) (arrivals : List Arrival) → From pat t arrivals → demand_in pat arrivals x (x + n) ≤ demand pat n
  bound_at n x t [] f = omega arith
  bound_at n x t (a ∷ rest) (late, k, f) = elim (cases_lt x (a.time + pat.deadline)) [
    | inr past ↦
        let rec = bound_at n x (a.time + pat.period) rest f in
        omega (arith, sum_by-cons (part pat x (x + n)) a rest, part_past x (x + n) a k past)
    | inl still ↦
        let u = x - a.time in
        let y = x + n in
        let td = ok.some_time in
        let here = part_le x y u (u + n) a k (omega arith) (omega arith) in
        let there = chain_bound x y (a.time + pat.period) rest f in
        let sooner = chain_mono pat ok (length rest) (y - (a.time + pat.period)) (u + n - pat.period) (omega arith) in
        let enough = chain_le pat ok (length rest) (u + n) (u + n - pat.period) (omega arith) in
        omega (arith, sum_by-cons (part pat x y) a rest, sum_chain pat (u + n) (u + n), most_at (at_cut pat n) pat.deadline u (omega arith))
  ]

  -- m arrivals a period apart, from t on, each with its best branch, up to y
  train : (m x y t : ℕ) → x ≤ t → (arrivals : List Arrival) × From pat t arrivals × AllByRecursion (λ a. a.time ≤ y) arrivals × (demand_in pat arrivals x y ≡ chain pat m (y - t))
  train zero x y t l = ([], tt, tt, refl)
  train (suc m) x y t l = elim (cases_lt y t) [
    | inl past ↦ ([], tt, tt, sym (chain_none pat ok (suc m) (y - t) (omega arith)))
    | inr before ↦
        let (rest, f, ends, e) = train m x y (t + pat.period) (omega arith) in
        let (k, in', b) = best_attained pat ok 0 (y - t) in
        let a : Arrival = record { time = t; branch = k } in
        let zero_cut : x - t ≡ 0 = omega arith in
        let left : y - (t + pat.period) ≡ y - t - pat.period = omega arith in
        let here : part pat x y a ≡ best pat 0 (y - t) = rw zero_cut b in
        (a ∷ rest, (omega arith, in', f), (before, ends), omega (arith, sum_by-cons (part pat x y) a rest, ap (chain pat m) left))
  ]

pub demand_is_met : DemandIsMet
demand_is_met pat ok n x after =
    let (u, below, most) = most_attained (at_cut pat n) pat.deadline ok.some_time in
    let t = x - u in
    let p = ok.within_period in
    let (rest, f, ends, e) = train pat ok (u + n) x (x + n) (t + pat.period) (omega arith) in
    let (k, in', b) = best_attained pat ok u (u + n) in
    let a : Arrival = record { time = t; branch = k } in
    let cut : x - t ≡ u = omega arith in
    let far : x + n - t ≡ u + n = omega arith in
    let left : x + n - (t + pat.period) ≡ u + n - pat.period = omega arith in
    let here : part pat x (x + n) a ≡ best pat u (u + n) = rw (cut, far) b in (
      a ∷ rest,
      (omega arith, in', f),
      (omega arith, ends),
      omega (arith, sum_by-cons (part pat x (x + n)) a rest, ap (chain pat (u + n)) left, sum_chain pat (u + n) (u + n)),
    )

pub demand_is_greatest : DemandIsGreatest
demand_is_greatest pat ok n =
    let (arrivals, f, _, e) = demand_is_met pat ok n pat.deadline (omega arith) in
    record { bound = λ arrivals x f. bound_at pat ok n x 0 arrivals f; attained = (arrivals, pat.deadline, f, e) }

pub greatest_is_one : GreatestIsOne
greatest_is_one pat n d e p q =
    let (ps, x, f, a) = p.attained in
    let (qs, y, g, b) = q.attained in
    omega (arith, p.bound qs y g, q.bound ps x f)
