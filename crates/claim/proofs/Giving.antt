-- What the tables of a claim give is what its pattern asks.
use Rattle.std.proofs.Common.{◌≡◌, ℕ, ◌+◌, ◌-◌, ◌*◌, ◌/◌, List, [], ◌∷◌, refl, sym, ap, ◌∙◌, arith}
use Rattle.std.specs.List.{All}
use Rattle.std.proofs.lemmas.List.Elements.{All-head, All-tail}
use Rattle.few.specs.Few.{items}
use Rattle.claim.specs.declared.claim.Claim.{Claim}
use Rattle.claim.specs.declared.claim.Cut.{Cut}
use Rattle.claim.specs.Asking.{given, given_at, given_later, whole_ones}
use Rattle.claim.specs.Claim.{Claims, Cuts, by_end}
use Rattle.theory.specs.Demand.{at_cut, best, demand, greatest, later, later_quick, wholes}
use Rattle.theory.specs.Pattern.{Pattern, WellFormed}
use Rattle.theory.proofs.Quick.{demand_is_quick}

pub greatest_same : {X : Type 0} (P : X → Type 0) (f g : X → ℕ) → ((x : X) → P x → f x ≡ g x) → (xs : List X) → All P xs → greatest f xs ≡ greatest g xs
greatest_same P f g same [] all = refl
greatest_same P f g same (x ∷ xs) all =
    let rec = greatest_same P f g same xs (All-tail P x xs all) in
    omega (arith, same x (All-head P x xs all))

module _ (p : Pattern) (c : Claim) (ok : WellFormed p) (claims : Claims p c) where
  wholes_are : (y : ℕ) → whole_ones c y ≡ wholes p y
  wholes_are y = ap (λ (d : ℕ). (y - d) / c.period) claims.its_deadline ∙ ap (λ (t : ℕ). (y - p.deadline) / t) claims.its_period

  later_is : (y : ℕ) → given_later c y ≡ later p y
  later_is y =
      let whole_ones' = wholes_are y in
      let w = wholes p y in
      let rest : y - (whole_ones c y + 1) * c.period ≡ y - (w + 1) * p.period =
      ap (λ (q : ℕ). y - (q + 1) * c.period) whole_ones' ∙ ap (λ (t : ℕ). y - (w + 1) * t) claims.its_period in
      let ended = ap (by_end c c.arrival) rest ∙ claims.from_arrival (y - (w + 1) * p.period) ∙ ap (λ (u : ℕ). best p u (y - (w + 1) * p.period)) claims.at_arrival in
      let full = ap (λ (q : ℕ). q * c.whole) whole_ones' ∙ ap (λ (a : ℕ). w * a) claims.its_whole in
      let quick : given_later c y ≡ later_quick p y = omega arith in
      quick ∙ sym ((demand_is_quick p ok).0 y)

  pub at_is : (n : ℕ) (k : Cut) → Cuts p c k → given_at c n k ≡ at_cut p n k.«from»
  at_is n k cuts = omega (arith, cuts (k.«from» + n), later_is (k.«from» + n))

  pub given_is : (n : ℕ) → given c n ≡ demand p n
  given_is n =
      let first = at_is n c.arrival claims.from_arrival ∙ ap (at_cut p n) claims.at_arrival in
      let others = greatest_same (Cuts p c) (given_at c n) (λ k. at_cut p n k.«from») (at_is n) (items c.cuts) claims.from_cuts in
      omega (arith, claims.enough n)
