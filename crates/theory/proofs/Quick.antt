-- Only the cuts at offsets count, and the later arrivals are whole but for one.
use Rattle.std.proofs.Common.{◌≡◌, ℕ, zero, suc, ◌+◌, ◌-◌, ◌*◌, ◌<◌, ◌≤◌, max, ◌⊎◌, List, [], ◌∷◌, ap, ◌∙◌, inl, inr, div-mul-le_self, arith}
use mathlib.Core.Path.{fun_ext}
use native.Mathlib.Nat.{lt-div-mul-add}
use Rattle.std.specs.List.{AllByRecursion}
use Rattle.std.proofs.lemmas.List.Sums.{sum_by-cons}
use Rattle.std.proofs.lemmas.Bool.{cases_eq}
use Rattle.std.proofs.lemmas.Bool.Decides.{nat_tests}
use Rattle.theory.specs.Pattern.{Window, Pattern, FitsIn, WellFormed, share, inner}
use Rattle.theory.specs.Demand.{greatest, best, later, at_cut, demand, whole, wholes, later_quick, at_cut_quick}
use Rattle.theory.specs.Theorems.{DemandIsQuick}
use Rattle.theory.proofs.Greatest.{most_at, most_le, greatest_le}
use Rattle.theory.proofs.Windows.{best_mono, best_full, best_short, best_past}
use Rattle.theory.proofs.Chains.{chain, sum_chain, chain_mono, chain_none, chain_le}
use Rattle.theory.proofs.Grows.{later_grows}

-- a cut at no offset can move on by one
share_skip : (u y : ℕ) (i : Window) → (u ≡ i.offset → ⊥) → share u y i ≤ share (suc u) y i
share_skip u y i ne = grind (arith, nat_tests)

skip_items : (f : ℕ → ℕ) (u y : ℕ) (b : List Window) → (f u ≤ greatest (λ i. f i.offset) b) ⊎ (inner b u y ≤ inner b (suc u) y)
skip_items f u y [] = inr (omega arith)
skip_items f u y (i ∷ b) = elim (cases_eq u i.offset) [
  | inl e ↦ inl (omega (arith, ap f e))
  | inr ne ↦ elim (skip_items f u y b) [
    | inl l ↦ inl (omega arith)
    | inr l ↦ inr (omega (arith, sum_by-cons (share u y) i b, sum_by-cons (share (suc u) y) i b, share_skip u y i ne))
  ]
]

skip_branches : (f : ℕ → ℕ) (u y : ℕ) (bs : List (List Window))
    → (f u ≤ greatest (λ b. greatest (λ i. f i.offset) b) bs) ⊎ (greatest (λ b. inner b u y) bs ≤ greatest (λ b. inner b (suc u) y) bs)
skip_branches f u y [] = inr (omega arith)
skip_branches f u y (b ∷ bs) = elim (skip_items f u y b) [
  | inl l ↦ inl (omega arith)
  | inr here ↦ elim (skip_branches f u y bs) [ inl l ↦ inl (omega arith) | inr there ↦ inr (omega arith) ]
]

-- the greatest over the cuts that count
abbrev over_cuts : Pattern → (ℕ → ℕ) → ℕ
over_cuts pat f = max (f 0) (greatest (λ b. greatest (λ i. f i.offset) b) pat.branches)

module _ (pat : Pattern) (ok : WellFormed pat) where
  -- past the last offset nothing of the first arrival counts, and the next may as well come sooner
  past_all : (n u : ℕ) → u ≡ pat.deadline → at_cut pat n u ≤ at_cut pat n 0
  past_all n u e =
      let p = ok.within_period in
      let z : 0 + n ≡ n = omega arith in
      omega (
        arith,
        best_past pat ok u (u + n) (omega arith),
        sum_chain pat (u + n) (u + n),
        sum_chain pat n n,
        chain_mono pat ok (u + n) (u + n - pat.period) n (omega arith),
        chain_le pat ok (u + n) (suc n) n (omega arith),
        ap (best pat 0) z,
        ap (later pat) z,
      )

  at_skip : (n u : ℕ) → best pat u (u + n) ≤ best pat (suc u) (u + n) → at_cut pat n u ≤ at_cut pat n (suc u)
  at_skip n u l =
      omega (arith, best_mono pat ok (suc u) (suc u) (u + n) (suc u + n) (omega arith) (omega arith), later_grows pat ok (u + n) (suc u + n) (omega arith))

  cut_le : (left n u : ℕ) → pat.deadline ≡ u + left → at_cut pat n u ≤ over_cuts pat (at_cut pat n)
  cut_le zero n u e = omega (arith, past_all n u (omega arith))
  cut_le (suc left) n u e = elim (skip_branches (at_cut pat n) u (u + n) pat.branches) [
    | inl l ↦ omega arith
    | inr l ↦ let rec = cut_le left n (suc u) (omega arith) in omega (arith, at_skip n u l)
  ]

  few_cuts : (n : ℕ) → demand pat n ≡ over_cuts pat (at_cut pat n)
  few_cuts n =
      let up = most_le (at_cut pat n) pat.deadline (over_cuts pat (at_cut pat n)) (λ u k. cut_le (pat.deadline - u) n u (omega arith)) in
      let first = most_at (at_cut pat n) pat.deadline 0 ok.some_time in
      let others = greatest_le (AllByRecursion (FitsIn pat.deadline)) (λ b. greatest (λ i. at_cut pat n i.offset) b) (demand pat n)
      (λ b ws. greatest_le (FitsIn pat.deadline) (λ i. at_cut pat n i.offset) (demand pat n)
      (λ i w. most_at (at_cut pat n) pat.deadline i.offset (omega (arith, w.opens, w.closes))) b ws)
      pat.branches ok.windows in
      omega arith

  -- q whole arrivals, and one that is cut
  chain_wholes : (q m y : ℕ) → y - pat.period ≤ m → q * pat.period ≤ y - pat.deadline → y - pat.deadline < q * pat.period + pat.period
      → chain pat m (y - pat.period) ≡ q * whole pat + best pat 0 (y - (q + 1) * pat.period)
  chain_wholes zero zero y a b c = omega (arith, best_short pat ok 0 (y - (0 + 1) * pat.period) (omega arith))
  chain_wholes zero (suc m) y a b c =
      let p = ok.within_period in
      let e : y - (0 + 1) * pat.period ≡ y - pat.period = omega arith in
      omega (arith, ap (best pat 0) e, chain_none pat ok m (y - pat.period - pat.period) (omega arith))
  chain_wholes (suc q) zero y a b c = let t = ok.some_time in let p = ok.within_period in absurd (omega arith)
  chain_wholes (suc q) (suc m) y a b c =
      let t = ok.some_time in
      let p = ok.within_period in
      let rec = chain_wholes q m (y - pat.period) (omega arith) (omega arith) (omega arith) in
      let e : y - (suc q + 1) * pat.period ≡ y - pat.period - (q + 1) * pat.period = omega arith in
      omega (arith, ap (best pat 0) e, best_full pat ok 0 (y - pat.period) pat.deadline (omega arith) (omega arith))

  later_is_quick : (y : ℕ) → later pat y ≡ later_quick pat y
  later_is_quick y =
      let t : 0 < pat.period = omega (arith, ok.some_time, ok.within_period) in
      sum_chain pat y y ∙ chain_wholes (wholes pat y) y y (omega arith) (div-mul-le_self (y - pat.deadline) pat.period) (lt-div-mul-add t)

  at_is_quick : (n : ℕ) → at_cut pat n ≡ at_cut_quick pat n
  at_is_quick n = fun_ext (λ u. ap (λ v. best pat u (u + n) + v) (later_is_quick (u + n)))

pub demand_is_quick : DemandIsQuick
demand_is_quick pat ok = (later_is_quick pat ok, λ n. few_cuts pat ok n ∙ ap (over_cuts pat) (at_is_quick pat ok n))
