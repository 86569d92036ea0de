-- Claims that fit on an engine ask in whole arrivals no more than a belt cycle.
use Rattle.std.proofs.Common.{◌≡◌, ℕ, ◌*◌, ◌/◌, ◌≤◌, List, [], ◌∷◌, sum_by, ap, ◌∙◌, mul_comm, arith}
use native.Mathlib.Nat.{div-add-mod}
use Rattle.std.specs.List.{All}
use Rattle.std.proofs.lemmas.List.Elements.{All-nil, All-cons}
use Rattle.std.proofs.lemmas.List.Sums.{sum_by-cons}
use Rattle.claim.specs.declared.claim.Claim.{Claim}
use Rattle.engine.specs.Supply.{Lawful}
use Rattle.fit.specs.Fits.{Fits, Paced, in_cycle}
use Rattle.fit.specs.Stated.{Stated, States}
use Rattle.fit.proofs.Serving.{within_ticks}
use Rattle.theory.specs.Demand.{demand, demand_of_all, whole}
use Rattle.theory.specs.Pattern.{Pattern}
use Rattle.theory.proofs.Settles.{demand_settles}

-- in a belt cycle a pattern asks for the whole arrivals that it has room for
in_cycle_asked : (p : Pattern) (c : Claim) → States p c → in_cycle c ≤ demand p 14400
in_cycle_asked p c st =
    let m = 14400 / p.period in
    let turns : m * p.period ≡ 14400 = omega (arith, div-add-mod 14400 p.period, mul_comm p.period m, st.divides) in
    let same : in_cycle c ≡ m * whole p =
    ap (λ (w : ℕ). w * (14400 / c.period)) st.claims.its_whole ∙ ap (λ (t : ℕ). whole p * (14400 / t)) st.claims.its_period ∙ mul_comm (whole p) m in
    omega (arith, same, (demand_settles p st.formed m).at_least, ap (demand p) turns)

all_asked : (ps : List Pattern) (cs : List Claim) → Stated ps cs → sum_by in_cycle cs ≤ demand_of_all ps 14400
all_asked [] [] st = omega arith
all_asked [] (c ∷ cs) st = absurd st
all_asked (p ∷ ps) [] st = absurd st
all_asked (p ∷ ps) (c ∷ cs) st =
    let rec = all_asked ps cs st.1 in
    omega (arith, in_cycle_asked p c st.0, sum_by-cons in_cycle c cs, sum_by-cons (λ q. demand q 14400) p ps)

pub paced : (s : ℕ → ℕ) (cycle quota : ℕ) → Lawful s cycle quota → (ps : List Pattern) (cs : List Claim) → Stated ps cs → Fits s ps → Paced cs
paced s cycle quota law ps cs st fit = omega (arith, all_asked ps cs st, fit 14400, within_ticks s cycle quota law 14400)

each_within : (m : ℕ) (cs : List Claim) → sum_by in_cycle cs ≤ m → All (λ c. in_cycle c ≤ m) cs
each_within m [] all = All-nil (λ c. in_cycle c ≤ m)
each_within m (c ∷ cs) all =
    let split = sum_by-cons in_cycle c cs in
    All-cons (λ k. in_cycle k ≤ m) c cs (omega arith) (each_within m cs (omega arith))

-- so does each of them alone
pub each_paced : (cs : List Claim) → Paced cs → All (λ c. in_cycle c ≤ 14400) cs
each_paced cs all = each_within 14400 cs all
