-- A period more asks for one whole arrival more; so twice a common multiple of the periods settles every number of ticks.
use Rattle.std.proofs.Common.{◌≡◌, ℕ, zero, suc, ◌+◌, ◌-◌, ◌*◌, ◌/◌, ◌%◌, ◌<◌, ◌≤◌, List, [], ◌∷◌, refl, ap, inl, inr, mul_comm, arith}
use native.Mathlib.Nat.{div-add-mod}
use Rattle.std.specs.List.{AllByRecursion}
use Rattle.std.proofs.lemmas.List.Sums.{sum_by-cons}
use Rattle.std.proofs.lemmas.Bool.{cases_lt}
use Rattle.theory.specs.Pattern.{Pattern, WellFormed}
use Rattle.theory.specs.Demand.{best, later, at_cut, demand, whole, demand_of_all}
use Rattle.theory.specs.Theorems.{DemandSettles, TwiceSettlesAll}
use Rattle.theory.proofs.Greatest.{most_at, most_le, most_shift}
use Rattle.theory.proofs.Windows.{best_full, best_short}
use Rattle.theory.proofs.Chains.{chain, sum_chain, chain_none, chain_le, chain_same}

module _ (pat : Pattern) (ok : WellFormed pat) where
  later_more : (y : ℕ) → pat.deadline ≤ y → later pat (y + pat.period) ≡ later pat y + whole pat
  later_more y l =
      let less : y + pat.period - pat.period ≡ y = omega arith in
      omega (
        arith,
        sum_chain pat (y + pat.period) (y + pat.period),
        ap (chain pat (y + pat.period)) less,
        chain_same pat ok (y + pat.period) (suc y) y (omega arith) (omega arith),
        sum_chain pat y y,
        best_full pat ok 0 y pat.deadline l (omega arith),
      )

  at_more : (n u : ℕ) → pat.deadline ≤ n → at_cut pat (n + pat.period) u ≡ at_cut pat n u + whole pat
  at_more n u l =
      let e : u + (n + pat.period) ≡ u + n + pat.period = omega arith in
      omega (arith, later_more (u + n) (omega arith), ap (later pat) e, best_full pat ok u (u + (n + pat.period)) (u + n) (omega arith) (omega arith))

  demand_more : (n : ℕ) → pat.deadline ≤ n → demand pat (n + pat.period) ≡ demand pat n + whole pat
  demand_more n l = most_shift (at_cut pat n) (at_cut pat (n + pat.period)) (whole pat) pat.deadline ok.some_time (λ u _. at_more n u l)

  more : (m n : ℕ) → pat.deadline ≤ n → demand pat (n + m * pat.period) ≡ demand pat n + m * whole pat
  more zero n l = let e : n + 0 * pat.period ≡ n = omega arith in omega (arith, ap (demand pat) e)
  more (suc m) n l =
      let e : n + suc m * pat.period ≡ n + m * pat.period + pat.period = omega arith in
      let rec = more m n l in
      omega (arith, ap (demand pat) e, demand_more (n + m * pat.period) (omega arith))

  chain_whole : (m : ℕ) → m * whole pat ≤ chain pat m (m * pat.period)
  chain_whole zero = omega arith
  chain_whole (suc m) =
      let rec = chain_whole m in
      let p = ok.within_period in
      let e : suc m * pat.period - pat.period ≡ m * pat.period = omega arith in
      omega (arith, ap (chain pat m) e, best_full pat ok 0 (suc m * pat.period) pat.deadline (omega arith) (omega arith))

  least : (m : ℕ) → m * whole pat ≤ demand pat (m * pat.period)
  least m =
      let n = m * pat.period in
      omega (
        arith,
        chain_whole m,
        chain_le pat ok m (suc n) n (omega arith),
        sum_chain pat n n,
        most_at (at_cut pat n) pat.deadline 0 ok.some_time,
        ap (best pat 0) (let e : 0 + n ≡ n = omega arith in e),
        ap (later pat) (let e : 0 + n ≡ n = omega arith in e),
      )

pub demand_settles : DemandSettles
demand_settles pat ok m = record { later_on = more pat ok m; at_least = least pat ok m }

-- h is so many times d
abbrev Divides : ℕ → ℕ → Type 0
Divides d h = (m : ℕ) × (h ≡ m * d)

multiple_le : (m t h : ℕ) → h ≡ m * t → 0 < h → t ≤ h
multiple_le zero t h e l = omega arith
multiple_le (suc m) t h e l = omega arith

-- h ticks more ask for no more than h ticks do alone
all_more : (h : ℕ) → 0 < h → (pats : List Pattern) → AllByRecursion WellFormed pats → AllByRecursion (λ pat. Divides pat.period h) pats → (n : ℕ) → h ≤ n
    → demand_of_all pats (n + h) ≤ demand_of_all pats n + demand_of_all pats h
all_more h p [] ok d n l = omega arith
all_more h p (pat ∷ pats) (o, ok) ((m, e), d) n l =
    let rec = all_more h p pats ok d n l in
    let s = demand_settles pat o m in
    let more = s.later_on n (omega (arith, o.within_period, multiple_le m pat.period h e p)) in
    omega (
      arith,
      s.at_least,
      ap (demand pat) e,
      ap (λ k. demand pat (n + k)) e,
      sum_by-cons (λ pat. demand pat (n + h)) pat pats,
      sum_by-cons (λ pat. demand pat n) pat pats,
      sum_by-cons (λ pat. demand pat h) pat pats,
    )

-- no ticks ask nothing
none_asks_nothing : (pats : List Pattern) → AllByRecursion WellFormed pats → demand_of_all pats 0 ≡ 0
none_asks_nothing [] ok = refl
none_asks_nothing (pat ∷ pats) (o, ok) =
    let rec = none_asks_nothing pats ok in
    let none = most_le (at_cut pat 0) pat.deadline 0 (λ u l. omega (
      arith,
      o.within_period,
      best_short pat o u (u + 0) (omega arith),
      sum_chain pat (u + 0) (u + 0),
      chain_none pat o (u + 0) (u + 0 - pat.period) (omega (arith, o.within_period)),
    )) in
    omega (arith, sum_by-cons (λ i. demand i 0) pat pats)

-- twice any common multiple of the periods settles every number of ticks
twice_settles :
    (h : ℕ) → 0 < h → (ps : List Pattern) → AllByRecursion WellFormed ps → AllByRecursion (λ p. Divides p.period h) ps
    → (s : ℕ → ℕ) → ((n : ℕ) → s n + s h ≤ s (n + h))
    → ((n : ℕ) → 0 < n → n ≤ 2 * h → demand_of_all ps n ≤ s n) → (n : ℕ) → demand_of_all ps n ≤ s n
twice_settles h p pats ok d s joins first n = go n n (omega arith)
  where
    go : (fuel n : ℕ) → n ≤ fuel → demand_of_all pats n ≤ s n
    go fuel zero l = omega (arith, none_asks_nothing pats ok)
    go zero (suc n) l = absurd (omega arith)
    go (suc fuel) (suc i) l = let n = suc i in elim (cases_lt (2 * h) n) [
      | inr early ↦ first n (omega arith) early
      | inl late ↦
          let k = n - h in
          let e : k + h ≡ n = omega arith in
          let rec = go fuel k (omega arith) in
          let step = all_more h p pats ok d k (omega arith) in
          omega (arith, joins k, ap s e, ap (demand_of_all pats) e, first h p (omega arith))
    ]

-- a period that divides h fits a whole number of times
all_divide : (h : ℕ) (ps : List Pattern) → AllByRecursion (λ p. h % p.period ≡ 0) ps → AllByRecursion (λ p. Divides p.period h) ps
all_divide h [] d = tt
all_divide h (p ∷ ps) d = ((h / p.period, omega (arith, div-add-mod h p.period, mul_comm p.period (h / p.period), d.0)), all_divide h ps d.1)

pub twice_settles_all : TwiceSettlesAll
twice_settles_all h some ps ok divide s joins first = twice_settles h some ps ok (all_divide h ps divide) s (λ n. joins n h) first
