-- More ticks ask no less.
use Rattle.std.proofs.Common.{ℕ, ◌+◌, ◌-◌, ◌≤◌, [], ◌∷◌, arith}
use Rattle.std.proofs.lemmas.List.Sums.{sum_by-cons}
use Rattle.theory.specs.Pattern.{Pattern, WellFormed}
use Rattle.theory.specs.Demand.{later, at_cut, demand}
use Rattle.theory.specs.Theorems.{DemandGrows, AllGrow}
use Rattle.theory.proofs.Greatest.{most_at, most_le}
use Rattle.theory.proofs.Windows.{best_mono}
use Rattle.theory.proofs.Chains.{sum_chain, chain_mono, chain_le}

module _ (pat : Pattern) (ok : WellFormed pat) where
  pub later_grows : (y z : ℕ) → y ≤ z → later pat y ≤ later pat z
  later_grows y z l =
      omega (
        arith,
        sum_chain pat y y,
        sum_chain pat z z,
        chain_mono pat ok y (y - pat.period) (z - pat.period) (omega arith),
        chain_le pat ok y z (z - pat.period) (omega arith),
      )

  at_grows : (m n u : ℕ) → m ≤ n → at_cut pat m u ≤ at_cut pat n u
  at_grows m n u l = omega (arith, best_mono pat ok u u (u + m) (u + n) (omega arith) (omega arith), later_grows (u + m) (u + n) (omega arith))

pub demand_grows : DemandGrows
demand_grows pat ok m n l =
    most_le (at_cut pat m) pat.deadline (demand pat n) (λ u k. omega (arith, at_grows pat ok m n u l, most_at (at_cut pat n) pat.deadline u k))

pub all_grow : AllGrow
all_grow [] ok m n l = omega arith
all_grow (pat ∷ pats) (o, ok) m n l =
    let rec = all_grow pats ok m n l in
    omega (arith, demand_grows pat o m n l, sum_by-cons (λ i. demand i m) pat pats, sum_by-cons (λ i. demand i n) pat pats)
