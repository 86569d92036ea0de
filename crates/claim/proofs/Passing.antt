-- From when on an arrival has passed what it has passed by a moment.
use Rattle.std.proofs.Common.{◌≡◌, ℕ, zero, suc, ◌+◌, ◌-◌, ◌*◌, ◌/◌, ◌<◌, ◌≤◌, max, cond, List, [], ◌∷◌, length, ap, ◌∙◌, inl, inr, arith}
use Rattle.std.specs.Prelude.{nat_le}
use Rattle.std.specs.List.Sorted.{IsNonDecreasing}
use Rattle.std.proofs.Math.Nat.{div-le_self, div-mul-le_self}
use Rattle.std.proofs.lemmas.Bool.{cases_eq, cases_lt}
use Rattle.std.proofs.lemmas.Bool.Decides.{nat_tests}
use Rattle.std.proofs.lemmas.List.Sums.{count_by-le-length}
use Rattle.std.proofs.lemmas.Nat.{le-div}
use Rattle.few.specs.Few.{items}
use Rattle.claim.specs.declared.asking.Reach.{Reach}
use Rattle.claim.specs.declared.claim.Claim.{Claim}
use Rattle.claim.specs.Asking.{Begins, ended, reach_of, step, whole_ones}
use Rattle.claim.proofs.Reaching.{ended_cons, none_ended, one_ended, rising_tail}

one_up : (e y z : ℕ) → y ≤ z → cond (nat_le e y) 1 0 ≤ cond (nat_le e z) 1 0
one_up e y z up = grind (arith, nat_tests)

pub ended_up : (es : List ℕ) (y z : ℕ) → y ≤ z → ended es y ≤ ended es z
ended_up [] y z up = omega arith
ended_up (e ∷ es) y z up =
    let rec = ended_up es y z up in
    omega (arith, ended_cons e es y, ended_cons e es z, one_up e y z up)

pub few_ended : (es : List ℕ) (y : ℕ) → ended es y ≤ length es
few_ended es y = count_by-le-length (λ e. nat_le e y) es

-- the last end that is passed is passed
pub passed_low : (es : List ℕ) (y : ℕ) → IsNonDecreasing es → step es (ended es y) ≤ y
passed_low [] y up = omega arith
passed_low (e ∷ es) y up =
    let rec = passed_low es y (rising_tail e es up) in
    elim (cases_lt y e) [
      | inl past ↦
          let none = none_ended (e ∷ es) y (λ i below. let more = up 0 i 0 (omega arith) below in omega arith) in
          omega (arith, ap (step (e ∷ es)) none)
      | inr due ↦
          let one : ended (e ∷ es) y ≡ suc (ended es y) = omega (arith, ended_cons e es y, one_ended e y 1 due) in
          omega (arith, ap (step (e ∷ es)) one, next e es (ended es y) y due rec)
    ]
  where
    next : (e : ℕ) (es : List ℕ) (q y : ℕ) → e ≤ y → step es q ≤ y → step (e ∷ es) (suc q) ≤ y
    next e es zero y here rest = here
    next e es (suc q) y here rest = rest

-- whatever has come to the q-th end has passed q ends
pub passed_back : (es : List ℕ) (q z : ℕ) → IsNonDecreasing es → q ≤ length es → step es q ≤ z → q ≤ ended es z
passed_back es zero z up few low = omega arith
passed_back [] (suc q) z up few low = absurd (omega arith)
passed_back (e ∷ es) (suc q) z up few low =
    let here : e ≤ z = let more = up 0 q 0 (omega arith) (omega arith) in omega arith in
    let rec = passed_back es q z (rising_tail e es up) (omega arith) (before e es q z low) in
    omega (arith, ended_cons e es z, one_ended e z 1 here)
  where
    before : (e : ℕ) (es : List ℕ) (q z : ℕ) → step (e ∷ es) (suc q) ≤ z → step es q ≤ z
    before e es zero z low = omega arith
    before e es (suc q) z low = low

pub div_up : (y z t : ℕ) → 1 ≤ t → y ≤ z → y / t ≤ z / t
div_up y z t some up = le-div (y / t) z t (omega arith) (omega (arith, div-mul-le_self y t))

-- the moment at which the last whole arrival of a reach is due
pub record WholeDue (c : Claim) (r : Reach) (m : ℕ) : Type 0 where
  pub none : r.wholes ≡ 0 → m ≡ 0
  pub some : 0 < r.wholes → m ≡ r.wholes * c.period + c.deadline

-- the moment at which what the last arrival has passed was due
pub record LastDue (c : Claim) (r : Reach) (m : ℕ) : Type 0 where
  pub none : step (items c.ends) r.last ≡ 0 → m ≡ 0
  pub some : 0 < step (items c.ends) r.last → m ≡ (r.wholes + 1) * c.period + step (items c.ends) r.last

module _ (c : Claim) (y : ℕ) where
  abbrev es : List ℕ
  es = items c.ends

  abbrev w : ℕ
  w = whole_ones c y

  abbrev left : ℕ → ℕ
  left z = z - (w + 1) * c.period

  same_ended : (z : ℕ) → step es (ended es y) ≤ z → z ≤ y → ended es z ≡ ended es y
  same_ended z low high = omega (arith, ended_up es z y high, passed_back es (ended es y) z c.sorted (few_ended es y) low)

  same_wholes : (m z : ℕ) → WholeDue c (reach_of c y) m → m ≤ z → z ≤ y → whole_ones c z ≡ w
  same_wholes m z due low high =
      let down = div_up (z - c.deadline) (y - c.deadline) c.period c.some (omega arith) in
      elim (cases_eq w 0) [
        | inl none ↦ omega arith
        | inr some ↦ let up = le-div w (z - c.deadline) c.period (omega (arith, c.some)) (omega (arith, due.some (omega arith))) in omega arith
      ]

  same_last : (m z : ℕ) → LastDue c (reach_of c y) m → m ≤ z → z ≤ y → ended es (left z) ≡ ended es (left y)
  same_last m z due low high =
      let q = ended es (left y) in
      let back : step es q ≤ left z = elim (cases_eq (step es q) 0) [
        | inl none ↦ omega arith
        | inr some ↦ omega (arith, due.some (omega arith))
      ] in
      omega (arith, ended_up es (left z) (left y) (omega arith), passed_back es q (left z) c.sorted (few_ended es (left y)) back)

  whole_within : (m : ℕ) → WholeDue c (reach_of c y) m → m ≤ y
  whole_within m due = elim (cases_eq w 0) [
    | inl none ↦ omega (arith, due.none none)
    | inr some ↦ omega (arith, due.some (omega arith), div-mul-le_self (y - c.deadline) c.period, div-le_self (y - c.deadline) c.period)
  ]

  last_within : (m : ℕ) → LastDue c (reach_of c y) m → m ≤ y
  last_within m due = elim (cases_eq (step es (ended es (left y))) 0) [
    | inl none ↦ omega (arith, due.none none)
    | inr some ↦ omega (arith, due.some (omega arith), passed_low es (left y) c.sorted)
  ]

  pub begins : (f m l : ℕ) → f ≡ step es (ended es y) → WholeDue c (reach_of c y) m → LastDue c (reach_of c y) l → Begins c y (max (max f m) l)
  begins f m l first whole last = record {
    within = omega (arith, passed_low es y c.sorted, whole_within m whole, last_within l last);
    same = λ z low high.
        let a = same_ended z (omega arith) high in
        let b = same_wholes m z whole (omega arith) high in
        let d : ended es (z - (whole_ones c z + 1) * c.period) ≡ ended es (left y) = ap (λ (v : ℕ). ended es (z - (v + 1) * c.period)) b ∙ same_last l z last (omega arith) high in
        cc;
  }
