-- Arrivals that come as they are listed: those before a clock, and the one at it.
use Rattle.std.proofs.Common.{◌≡◌, ℕ, ◌+◌, ◌<◌, ◌≤◌, true, false, cond, nat_eq, nat_lt, Option, Some, None, List, [], ◌∷◌, length, refl, ap, inl, inr, arith}
use Rattle.std.proofs.lemmas.Bool.{cases_order, eq-eqb, le-ltb, lt-ltb, ne_eqb}
use Rattle.theory.specs.Pattern.{Arrival}
use Rattle.runs.specs.Job.{Job}
use Rattle.runs.specs.State.{Slot}
use Rattle.runs.specs.Events.{free_at}
use Rattle.runs.proofs.Arrivals.{Legal}

-- a job with arrivals, the newest first
pub record Train : Type 0 where
  pub job : Job
  pub arrivals : List Arrival

abbrev pub came : Slot → Train
came s = record { job = s.job; arrivals = s.arrivals }

pub record Fair (p : Train) : Type 0 where
  pub legal : Legal p.job p.arrivals
  pub some_time : 1 ≤ p.job.period

-- the arrivals before t of a list, the newest first, and the branch of the one at t
abbrev pub upto : ℕ → List Arrival → List Arrival
upto t [] = []
upto t (a ∷ rest) = cond (nat_lt a.time t) (a ∷ rest) (upto t rest)

abbrev pub coming : ℕ → List Arrival → Option ℕ
coming t [] = None
coming t (a ∷ rest) = cond (nat_eq a.time t) (Some a.branch) (coming t rest)

abbrev pub cut : ℕ → Train → Train
cut t p = record { job = p.job; arrivals = upto t p.arrivals }

pub data Turn (j : Job) (t : ℕ) (was will : List Arrival) : Option ℕ → Type 0 where
  still : will ≡ was → Turn j t was will None
  comes : (b : ℕ) → will ≡ record { time = t; branch = b } ∷ was → free_at j was ≤ t → b < length j.branches → Turn j t was will (Some b)

module _ (j : Job) (some_time : 1 ≤ j.period) where
  old : (l : List Arrival) (t : ℕ) → Legal j l → free_at j l ≤ t → (upto t l ≡ l) × (coming t l ≡ None)
  old [] t ok h = (refl, refl)
  old (a ∷ rest) t ok h =
      let y : nat_lt a.time t ≡ true = lt-ltb _ _ (omega arith) in
      let off : nat_eq a.time t ≡ false = ne_eqb _ _ (λ q. omega arith) in
      (rw y refl, rw off (old rest t ok.2 (omega (arith, ok.0))).1)

  pub turn : (l : List Arrival) (t : ℕ) → Legal j l → Turn j t (upto t l) (upto (t + 1) l) (coming t l)
  turn [] t ok = still refl
  turn (a ∷ rest) t ok = elim (cases_order a.time t) [
    | inl e ↦
        let before : nat_lt a.time t ≡ false = le-ltb _ _ (omega arith) in
        let after : nat_lt a.time (t + 1) ≡ true = lt-ltb _ _ (omega arith) in
        let here : nat_eq a.time t ≡ true = eq-eqb _ _ e in
        let past = (old rest t ok.2 (omega (arith, ok.0))).0 in
        rw (before, after, here, past) (comes a.branch (ap (λ (k : ℕ). record { time = k; branch = a.branch } ∷ rest) e) (omega (arith, ok.0)) ok.1)
    | inr r ↦ elim r [
      | inl l ↦
          let before : nat_lt a.time t ≡ true = lt-ltb _ _ l in
          let after : nat_lt a.time (t + 1) ≡ true = lt-ltb _ _ (omega arith) in
          let here : nat_eq a.time t ≡ false = ne_eqb _ _ (λ q. omega arith) in
          let none = (old rest t ok.2 (omega (arith, ok.0))).1 in
          rw (before, after, here, none) (still refl)
      | inr l ↦
          let before : nat_lt a.time t ≡ false = le-ltb _ _ (omega arith) in
          let after : nat_lt a.time (t + 1) ≡ false = le-ltb _ _ (omega arith) in
          let here : nat_eq a.time t ≡ false = ne_eqb _ _ (λ q. omega arith) in
          rw (before, after, here) (turn rest t ok.2)
    ]
  ]

pub upto_none : (l : List Arrival) → upto 0 l ≡ []
upto_none [] = refl
upto_none (a ∷ rest) = let off : nat_lt a.time 0 ≡ false = le-ltb _ _ (omega arith) in rw off (upto_none rest)
