-- Whether patterns fit is decided by the demand in some numbers of ticks, those where it rises.
use Rattle.std.proofs.Common.{◌≡◌, ℕ, suc, ◌+◌, ◌-◌, ◌*◌, ◌%◌, ◌<◌, ◌≤◌, Bool, true, ◌&&◌, leb, List, [], ◌∷◌, refl, ap, inl, inr, arith}
use Rattle.std.specs.Prelude.{sum_by}
use Rattle.std.specs.List.{AllByRecursion}
use Rattle.std.proofs.lemmas.Bool.{and_parts, cases_lt, leb-true}
use Rattle.std.proofs.lemmas.List.Sums.{sum_by-cons}
use Rattle.fit.specs.Fits.{Fits}
use Rattle.theory.specs.Demand.{demand, demand_of_all, demand_quick}
use Rattle.theory.specs.Pattern.{Pattern, WellFormed}
use Rattle.theory.proofs.Grows.{all_grow}
use Rattle.theory.proofs.Quick.{demand_is_quick}
use Rattle.theory.proofs.Settles.{twice_settles_all}

abbrev pub quickly : List Pattern → ℕ → ℕ
quickly ps n = sum_by (λ p. demand_quick p n) ps

-- what is asked in any number of ticks from a on up to each end is served in its first ticks, and the last is past the end
abbrev pub climbs : List Pattern → (ℕ → ℕ) → ℕ → ℕ → List ℕ → Bool
climbs ps s a end [] = leb end a
climbs ps s a end (b ∷ bs) = leb (quickly ps b) (s a) && climbs ps s (suc b) end bs

pub all_quick : (ps : List Pattern) → AllByRecursion WellFormed ps → (n : ℕ) → demand_of_all ps n ≡ quickly ps n
all_quick [] formed n = refl
all_quick (p ∷ ps) formed n =
    let rec = all_quick ps formed.1 n in
    omega (arith, (demand_is_quick p formed.0).1 n, sum_by-cons (λ p. demand p n) p ps, sum_by-cons (λ p. demand_quick p n) p ps)

module _ (ps : List Pattern) (formed : AllByRecursion WellFormed ps) (s : ℕ → ℕ) (joins : (a b : ℕ) → s a + s b ≤ s (a + b)) where
  grows : (a b : ℕ) → a ≤ b → s a ≤ s b
  grows a b low = let e : a + (b - a) ≡ b = omega arith in omega (arith, joins a (b - a), ap s e)

  up_to : (bs : List ℕ) (a end n : ℕ) → climbs ps s a end bs ≡ true → a ≤ n → n < end → demand_of_all ps n ≤ s n
  up_to [] a end n yes' low high = absurd (omega (arith, leb-true end a yes'))
  up_to (b ∷ bs) a end n yes' low high =
      let (here, later) = and_parts (leb (quickly ps b) (s a)) (climbs ps s (suc b) end bs) yes' in
      elim (cases_lt b n) [
        | inl past ↦ up_to bs (suc b) end n later (omega arith) high
        | inr within ↦ omega (arith, leb-true (quickly ps b) (s a) here, all_quick ps formed b, all_grow ps formed n b within, grows a n low)
      ]

  pub fits_by : (h : ℕ) → 1 ≤ h → AllByRecursion (λ p. h % p.period ≡ 0) ps → (bs : List ℕ) → climbs ps s 0 (2 * h + 1) bs ≡ true → Fits s ps
  fits_by h some divide bs yes' = twice_settles_all h some ps formed divide s joins (λ n _ early. up_to bs 0 (2 * h + 1) n yes' (omega arith) (omega arith))

-- more is asked than is served in n ticks
pub unfit_by : (s : ℕ → ℕ) (ps : List Pattern) → AllByRecursion WellFormed ps → (n : ℕ) → s n < quickly ps n → Fits s ps → ⊥
unfit_by s ps formed n more fits = omega (arith, fits n, all_quick ps formed n)
