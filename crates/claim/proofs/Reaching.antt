-- Ends that rise are passed one after another, and what falls due by the last that is passed is the most.
use Rattle.std.proofs.Common.{◌≡◌, ℕ, zero, suc, ◌+◌, ◌-◌, ◌*◌, ◌<◌, ◌≤◌, max, cond, List, [], ◌∷◌, ◌++◌, length, refl, ap, ◌∙◌, inl, inr, arith}
use Rattle.std.specs.Prelude.{nat_le, slice_index, slice_index_or}
use Rattle.std.specs.List.Sorted.{IsNonDecreasing}
use Rattle.std.proofs.lemmas.Bool.{cases_lt}
use Rattle.std.proofs.lemmas.Bool.Decides.{nat_tests}
use Rattle.std.proofs.lemmas.List.{length-take}
use Rattle.std.proofs.lemmas.List.Sums.{count_by-le-length, sum_by-cons}
use Rattle.few.specs.Few.{items}
use Rattle.claim.specs.declared.asking.Reach.{Reach}
use Rattle.claim.specs.declared.claim.Claim.{Claim}
use Rattle.claim.specs.declared.claim.Cut.{Cut}
use Rattle.claim.specs.Asking.{ended, given_later, reach_of, step, whole_ones}
use Rattle.claim.specs.Claim.{by_end, stair}
use Rattle.theory.specs.Demand.{greatest}

pub rising_tail : (x : ℕ) (xs : List ℕ) → IsNonDecreasing (x ∷ xs) → IsNonDecreasing xs
rising_tail x xs up i j d low high = up (suc i) (suc j) d (omega arith) (omega arith)

pub ended_cons : (e : ℕ) (es : List ℕ) (y : ℕ) → ended (e ∷ es) y ≡ cond (nat_le e y) 1 0 + ended es y
ended_cons e es y = sum_by-cons (λ x. cond (nat_le x y) 1 0) e es

pub one_ended : (e y n : ℕ) → e ≤ y → cond (nat_le e y) n 0 ≡ n
one_ended e y n due = grind (arith, nat_tests)

pub not_ended : (e y n : ℕ) → y < e → cond (nat_le e y) n 0 ≡ 0
not_ended e y n past = grind (arith, nat_tests)

pub none_ended : (es : List ℕ) (y : ℕ) → ((i : ℕ) → i < length es → y < slice_index es i) → ended es y ≡ 0
none_ended [] y past = refl
none_ended (e ∷ es) y past =
    let rec = none_ended es y (λ i below. past (suc i) (omega arith)) in
    let here : y < e = past 0 (omega arith) in
    omega (arith, ended_cons e es y, not_ended e y 1 here)

-- the first r ends are at most y, and the next is not
pub ended_at : (es : List ℕ) (y r : ℕ) → IsNonDecreasing es → r ≤ length es → ((i : ℕ) → i < r → slice_index es i ≤ y) → (r < length es → y < slice_index es r) → r ≡ ended es y
ended_at [] y r up few low high = omega arith
ended_at (e ∷ es) y zero up few low high =
    let next : y < e = high (omega arith) in
    let none = none_ended (e ∷ es) y (λ i below. let more : e ≤ slice_index (e ∷ es) i = up 0 i 0 (omega arith) below in omega arith) in
    omega arith
ended_at (e ∷ es) y (suc r) up few low high =
    let rec = ended_at es y r (rising_tail e es up) (omega arith) (λ i below. low (suc i) (omega arith)) (λ more. high (omega arith)) in
    let here : e ≤ y = low 0 (omega arith) in
    omega (arith, ended_cons e es y, one_ended e y 1 here)

-- where the last of the first r ends is at most y, all of them are
pub all_before : (es : List ℕ) (y r : ℕ) → IsNonDecreasing es → r ≤ length es → (0 < r → slice_index es (r - 1) ≤ y) → (i : ℕ) → i < r → slice_index es i ≤ y
all_before es y r up few last i below = let more = up i (r - 1) 0 (omega arith) (omega arith) in omega (arith, last (omega arith))

last_most : (m : ℕ) (ms : List ℕ) (q : ℕ) → IsNonDecreasing (m ∷ ms) → q ≤ length ms → max m (slice_index_or (0 ∷ ms) q 0) ≡ slice_index_or (m ∷ ms) q 0
last_most m ms zero up few = omega arith
last_most m ms (suc j) up few = let more : m ≤ slice_index_or ms j 0 = up 0 (suc j) 0 (omega arith) (omega arith) in omega arith

pub stair_step : (es ms : List ℕ) (y : ℕ) → IsNonDecreasing es → IsNonDecreasing ms → length es ≤ length ms → stair es ms y ≡ step ms (ended es y)
stair_step [] ms y rise up long = refl
stair_step (e ∷ es) [] y rise up long = absurd (omega arith)
stair_step (e ∷ es) (m ∷ ms) y rise up long =
    let rec = stair_step es ms y (rising_tail e es rise) (rising_tail m ms up) (omega arith) in
    let q = ended es y in
    elim (cases_lt y e) [
      | inl past ↦
          let none = none_ended es y (λ i below. let more : e ≤ slice_index es i = rise 0 (suc i) 0 (omega arith) (omega arith) in omega arith) in
          let all : ended (e ∷ es) y ≡ 0 = omega (arith, ended_cons e es y, not_ended e y 1 past) in
          omega (arith, not_ended e y m past, ap (step ms) none, ap (step (m ∷ ms)) all)
      | inr due ↦
          let one : ended (e ∷ es) y ≡ suc q = omega (arith, ended_cons e es y, one_ended e y 1 due) in
          omega (arith, one_ended e y m due, ap (step (m ∷ ms)) one, last_most m ms q up (omega (arith, count_by-le-length (λ x. nat_le x y) es)))
    ]

pub greatest_push : {X : Type 0} (f : X → ℕ) (xs : List X) (x : X) → greatest f (xs ++ x ∷ []) ≡ max (greatest f xs) (f x)
greatest_push f [] x = omega arith
greatest_push f (y ∷ xs) x = let rec = greatest_push f xs x in omega arith

pub few_ends : (c : Claim) → length (items c.ends) ≤ 24
few_ends c = omega (arith, c.ends.fits, c.ends.sized, length-take c.ends.len c.ends.places)

pub by_step : (c : Claim) (k : Cut) (y : ℕ) → by_end c k y ≡ step k.most (ended (items c.ends) y)
by_step c k y = stair_step (items c.ends) k.most y c.sorted k.rising (omega (arith, few_ends c, k.placed))

pub due_is : (c : Claim) (k : Cut) (y : ℕ) (r : Reach) → r ≡ reach_of c y → step k.most r.first + (r.wholes * c.whole + step c.arrival.most r.last) ≡ by_end c k y + given_later c y
due_is c k y r is =
    ap (λ (x : Reach). step k.most x.first + (x.wholes * c.whole + step c.arrival.most x.last)) is
    ∙ omega (arith, by_step c k y, by_step c c.arrival (y - (whole_ones c y + 1) * c.period))
