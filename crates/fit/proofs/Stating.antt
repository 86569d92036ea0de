-- What claims say in all is what their patterns ask.
use Rattle.std.proofs.Common.{◌≡◌, ℕ, ◌%◌, List, [], ◌∷◌, refl, ap, sym, ◌∙◌, arith}
use Rattle.std.specs.List.{AllByRecursion}
use Rattle.std.proofs.lemmas.List.Elements.{All-nil, All-cons, All-head, All-tail}
use Rattle.std.proofs.lemmas.List.Sums.{sum_by-cons}
use Rattle.claim.specs.declared.claim.Claim.{Claim}
use Rattle.claim.specs.Asking.{given}
use Rattle.claim.proofs.Giving.{given_is}
use Rattle.fit.specs.Fits.{given_of_all}
use Rattle.fit.specs.Multiple.{MultipleOf, Periodic}
use Rattle.fit.specs.Stated.{Stated}
use Rattle.theory.specs.Demand.{demand, demand_of_all}
use Rattle.theory.specs.Pattern.{Pattern, WellFormed}

pub stated_formed : (ps : List Pattern) (cs : List Claim) → Stated ps cs → AllByRecursion WellFormed ps
stated_formed [] [] st = tt
stated_formed [] (c ∷ cs) st = absurd st
stated_formed (p ∷ ps) [] st = absurd st
stated_formed (p ∷ ps) (c ∷ cs) st = (st.0.formed, stated_formed ps cs st.1)

pub stated_periodic : (ps : List Pattern) (cs : List Claim) → Stated ps cs → Periodic cs
stated_periodic [] [] st = All-nil _
stated_periodic [] (c ∷ cs) st = absurd st
stated_periodic (p ∷ ps) [] st = absurd st
stated_periodic (p ∷ ps) (c ∷ cs) st =
    All-cons (λ (x : Claim). 14400 % x.period ≡ 0) c cs
    (ap (λ (t : ℕ). 14400 % t) st.0.claims.its_period ∙ st.0.divides) (stated_periodic ps cs st.1)

-- a multiple of the claims' periods is one of the patterns'
pub stated_multiple : (ps : List Pattern) (cs : List Claim) → Stated ps cs → (h : ℕ) → MultipleOf cs h → AllByRecursion (λ p. h % p.period ≡ 0) ps
stated_multiple [] [] st h all = tt
stated_multiple [] (c ∷ cs) st h all = absurd st
stated_multiple (p ∷ ps) [] st h all = absurd st
stated_multiple (p ∷ ps) (c ∷ cs) st h all = (
  ap (λ (t : ℕ). h % t) (sym st.0.claims.its_period) ∙ All-head (λ (x : Claim). h % x.period ≡ 0) c cs all,
  stated_multiple ps cs st.1 h (All-tail (λ (x : Claim). h % x.period ≡ 0) c cs all),
)

pub given_in_all : (ps : List Pattern) (cs : List Claim) → Stated ps cs → (n : ℕ) → given_of_all cs n ≡ demand_of_all ps n
given_in_all [] [] st n = refl
given_in_all [] (c ∷ cs) st n = absurd st
given_in_all (p ∷ ps) [] st n = absurd st
given_in_all (p ∷ ps) (c ∷ cs) st n =
    let rec = given_in_all ps cs st.1 n in
    let here = given_is p c st.0.formed st.0.claims n in
    omega (arith, sum_by-cons (λ k. given k n) c cs, sum_by-cons (λ q. demand q n) p ps)
