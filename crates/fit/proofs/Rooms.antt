-- What an engine has left beside claims says whether one more fits there.
use Rattle.std.proofs.Common.{◌≡◌, ℕ, ◌%◌, ◌<◌, ◌≤◌, List, [], ◌∷◌, get_or, arith}
use Rattle.std.specs.List.{AllByRecursion}
use Rattle.std.proofs.lemmas.List.Sums.{sum_by-cons}
use Rattle.claim.specs.declared.claim.Claim.{Claim}
use Rattle.claim.specs.Asking.{given}
use Rattle.engine.specs.Supply.{Lawful}
use Rattle.fit.specs.declared.demands.Demands.{Demands}
use Rattle.fit.specs.declared.room.Room.{Room}
use Rattle.fit.specs.Fits.{Fits, Short, given_of_all}
use Rattle.fit.specs.Room.{Leaves}
use Rattle.fit.specs.Stated.{Stated}
use Rattle.fit.proofs.Serving.{within_ticks}
use Rattle.fit.proofs.Stating.{given_in_all, stated_formed}
use Rattle.theory.specs.Pattern.{Pattern}
use Rattle.theory.proofs.Settles.{twice_settles_all}

stated_divides : (ps : List Pattern) (cs : List Claim) → Stated ps cs → AllByRecursion (λ p. 14400 % p.period ≡ 0) ps
stated_divides [] [] st = tt
stated_divides [] (c ∷ cs) st = absurd st
stated_divides (p ∷ ps) [] st = absurd st
stated_divides (p ∷ ps) (c ∷ cs) st = (st.0.divides, stated_divides ps cs st.1)

module _ (s : ℕ → ℕ) (cs : List Claim) (room : Room) (demands : Demands) (leaves : Leaves s cs room) where
  abbrev all : List Claim
  all = demands.claim ∷ cs

  -- what is too much in n ticks
  pub too_much : (n : ℕ) → n ≤ 28800 → get_or room.too_much n 0 ≤ get_or demands.most n 0 → Short s all n
  too_much n few more = omega (arith, leaves n few, demands.tabled n few, sum_by-cons (λ k. given k n) demands.claim cs)

  pub not_too_much : (cycle quota : ℕ) → Lawful s cycle quota → (n : ℕ) → n ≤ 28800 → get_or demands.most n 0 < get_or room.too_much n 0 → given_of_all all n ≤ s n
  not_too_much cycle quota law n few less =
      omega (arith, leaves n few, demands.tabled n few, sum_by-cons (λ k. given k n) demands.claim cs, within_ticks s cycle quota law n)

  pub short_is_unfit : (ps : List Pattern) → Stated ps all → (n : ℕ) → Short s all n → Fits s ps → ⊥
  short_is_unfit ps st n short fit = omega (arith, given_in_all ps all st n, fit n)

  pub none_is_fit : (cycle quota : ℕ) → Lawful s cycle quota → (ps : List Pattern) → Stated ps all
      → ((n : ℕ) → n ≤ 28800 → get_or demands.most n 0 < get_or room.too_much n 0) → Fits s ps
  none_is_fit cycle quota law ps st less =
      twice_settles_all 14400 (omega arith) ps (stated_formed ps all st) (stated_divides ps all st) s law.joins
      (λ n some few. omega (arith, given_in_all ps all st n, not_too_much cycle quota law n (omega arith) (less n (omega arith))))
