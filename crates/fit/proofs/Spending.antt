-- The claims so far, and the next one; where nothing is spare.
use Rattle.std.proofs.Common.{◌≡◌, ℕ, ◌+◌, ◌-◌, ◌<◌, ◌≤◌, ◌↔◌, Bool, true, false, not, IsTrue, Option, Some, None, SomeIff, is_some, refl, List, map, take, length, get_or, Bor, sym, ap, ◌∙◌, arith}
use Rattle.std.proofs.lemmas.Bool.{both_ways}
use Rattle.std.proofs.lemmas.List.{get_or-map, length-map}
use Rattle.std.proofs.lemmas.List.Sums.{sum_by_more, sum_by_more_le}
use Rattle.claim.specs.declared.claim.Claim.{Claim}
use Rattle.claim.specs.Asking.{given}
use Rattle.fit.specs.Fits.{given_of_all}

abbrev pub shown : List (Bor Claim) → List Claim
shown bs = map (λ b. b.now) bs

module _ (bs : List (Bor Claim)) (i : ℕ) (b : Bor Claim) (below : i < length bs) (is : b ≡ get_or bs i b) where
  pub there : i < length (shown bs)
  there = omega (arith, length-map bs (λ (x : Bor Claim). x.now))

  pub at_place : get_or (shown bs) i b.now ≡ b.now
  at_place = get_or-map (λ (x : Bor Claim). x.now) bs i b b.now below ∙ ap (λ (x : Bor Claim). x.now) (sym is)

  pub with_next : (n : ℕ) → given_of_all (take (i + 1) (shown bs)) n ≡ given_of_all (take i (shown bs)) n + given b.now n
  with_next n = omega (arith, sum_by_more (λ c. given c n) (shown bs) i b.now there, ap (λ (c : Claim). given c n) at_place)

  pub next_within : (n : ℕ) → given_of_all (take i (shown bs)) n + given b.now n ≤ given_of_all (shown bs) n
  next_within n = omega (arith, sum_by_more_le (λ c. given c n) (shown bs) i b.now there, ap (λ (c : Claim). given c n) at_place)

-- where nothing is spare, more is asked than is served
pub short_iff : (o : Option ℕ) (b : Bool) (asked served : ℕ) → SomeIff o (asked ≤ served) (served - asked) → is_some o ≡ not b → IsTrue b ↔ (served < asked)
short_iff None true asked served spare is = (λ _. omega (arith, spare), λ _. refl)
short_iff None false asked served spare is = absurd (both_ways false refl is)
short_iff (Some x) true asked served spare is = absurd (both_ways false refl (sym is))
short_iff (Some x) false asked served spare is = (λ y. absurd (both_ways false refl y), λ short. absurd (omega (arith, spare.0)))
