-- The calls of one clock: each job arrives that is to, and each of these arrivals is granted.
use Rattle.std.proofs.Common.{◌≡◌, ℕ, ◌+◌, Bool, true, false, cond, ◌&&◌, ◌==◌, nat_le, nat_lt, Option, Some, None, List, [], ◌∷◌, ◌++◌, map, flat_map, length, refl, sym, ap, ◌∙◌, subst, inl, inr, map-id, arith}
use Rattle.std.specs.List.{AllByRecursion, list_any}
use Rattle.std.proofs.lemmas.Bool.{and_from, and_left, cases_Bool, eq-eqb, le-leb, lt-ltb, ne_eqb, or_left, or_right}
use Rattle.runs.specs.Job.{Apart}
use Rattle.runs.specs.State.{Slot, State}
use Rattle.runs.specs.Events.{arrive, arrive_at, Event, free_at, granted, play, step}
use Rattle.runs.specs.Runs.{AllGranted}
use Rattle.runs.proofs.Lists.{all_both, all_mem, map_map, Mem, mem_map}
use Rattle.runs.proofs.Trains.{came, comes, coming, cut, Fair, still, Train, turn, Turn, upto}

-- what an arrival does to the arrivals of a slot
abbrev takes : (t j b : ℕ) → Train → Bool
takes t j b p = (p.job.number == j) && (nat_lt b (length p.job.branches) && nat_le (free_at p.job p.arrivals) t)

abbrev arrive_to : (t j b : ℕ) → Train → Train
arrive_to t j b p = cond (takes t j b p) (record { job = p.job; arrivals = record { time = t; branch = b } ∷ p.arrivals }) p

train_arrive : (t j b : ℕ) (s : Slot) → came (arrive_at t j b s) ≡ arrive_to t j b (came s)
train_arrive t j b s = elim (cases_Bool (granted t j b s)) [ inl y ↦ rw y refl | inr off ↦ rw off refl ]

arrive_other : (t j b : ℕ) (p : Train) → (p.job.number ≡ j → ⊥) → arrive_to t j b p ≡ p
arrive_other t j b p ne =
    let off : takes t j b p ≡ false = and_left _ _ (ne_eqb _ _ ne) in
    rw off refl

trains_arrive : (t j b : ℕ) (slots : List Slot) → map came (map (arrive_at t j b) slots) ≡ map (arrive_to t j b) (map came slots)
trains_arrive t j b [] = refl
trains_arrive t j b (s ∷ slots) = rw (train_arrive t j b s) (ap (λ r. arrive_to t j b (came s) ∷ r) (trains_arrive t j b slots))

abbrev pub calls_of : ℕ → Option ℕ → List Event
calls_of j None = []
calls_of j (Some b) = arrive j b ∷ []

abbrev pub calls : ℕ → Train → List Event
calls t p = calls_of p.job.number (coming t p.arrivals)

abbrev after_one : (t j : ℕ) → Option ℕ → Train → Train
after_one t j None q = q
after_one t j (Some b) q = arrive_to t j b q

abbrev pub after : ℕ → List Train → Train → Train
after t [] q = q
after t (p ∷ todo) q = after t todo (after_one t p.job.number (coming t p.arrivals) q)

one_other : (t j : ℕ) (o : Option ℕ) (q : Train) → (q.job.number ≡ j → ⊥) → after_one t j o q ≡ q
one_other t j None q ne = refl
one_other t j (Some b) q ne = arrive_other t j b q ne

after_other : (t : ℕ) (todo : List Train) (q : Train) → AllByRecursion (λ p. p.job.number ≡ q.job.number → ⊥) todo → after t todo q ≡ q
after_other t [] q a = refl
after_other t (p ∷ todo) q a =
    let e = one_other t p.job.number (coming t p.arrivals) q (λ z. a.0 (sym z)) in
    ap (after t todo) e ∙ after_other t todo q a.1

one_own : (t : ℕ) (p : Train) → Fair p → after_one t p.job.number (coming t p.arrivals) (cut t p) ≡ cut (t + 1) p
one_own t p f = go (coming t p.arrivals) (turn p.job f.some_time p.arrivals t f.legal)
  where
    go : (o : Option ℕ) → Turn p.job t (upto t p.arrivals) (upto (t + 1) p.arrivals) o → after_one t p.job.number o (cut t p) ≡ cut (t + 1) p
    go None (still e) = ap (λ l. record { job = p.job; arrivals = l }) (sym e)
    go (Some b) (comes _ e free known) =
        let y : takes t p.job.number b (cut t p) ≡ true = and_from _ _ (eq-eqb p.job.number p.job.number refl) (and_from _ _ (lt-ltb _ _ known) (le-leb _ _ free)) in
        rw y (ap (λ l. record { job = p.job; arrivals = l }) (sym e))

pub after_own : (t : ℕ) (todo : List Train) → Apart (λ p. p.job.number) todo → (p : Train) → Fair p → Mem p todo → after t todo (cut t p) ≡ cut (t + 1) p
after_own t [] a p f m = absurd m
after_own t (q ∷ todo) a p f m = elim m [
  | inl e ↦
      let own : after_one t q.job.number (coming t q.arrivals) (cut t p) ≡ cut (t + 1) p = rw e (one_own t p f) in
      ap (after t todo) own ∙ after_other t todo (cut (t + 1) p) (rw e at a.0)
  | inr n ↦
      let other = all_mem (λ r. r.job.number ≡ q.job.number → ⊥) todo p n a.0 in
      ap (after t todo) (one_other t q.job.number (coming t q.arrivals) (cut t p) other) ∙ after_own t todo a.1 p f n
]

-- the calls of one clock
pub calls_end : (t : ℕ) (todo : List Train) (st : State) → st.clock ≡ t
    → ((play st (flat_map (calls t) todo)).clock ≡ t) × (map came (play st (flat_map (calls t) todo)).slots ≡ map (after t todo) (map came st.slots))
calls_end t [] st c = (c, sym (map-id (map came st.slots)))
calls_end t (p ∷ todo) st c = go (coming t p.arrivals) (calls_end t todo)
  where
    Goal : State → List Event → (Train → Train) → Type 0
    Goal s es f = ((play s es).clock ≡ t) × (map came (play s es).slots ≡ map f (map came s.slots))

    go : (o : Option ℕ) → ((s : State) → s.clock ≡ t → Goal s (flat_map (calls t) todo) (after t todo))
        → Goal st (calls_of p.job.number o ++ flat_map (calls t) todo) (λ q. after t todo (after_one t p.job.number o q))
    go None rec = rec st c
    go (Some b) rec =
        let (d, e) = rec (step st (arrive p.job.number b)) c in
        let f = trains_arrive st.clock p.job.number b st.slots in (
          d,
          e ∙ (ap (map (after t todo)) f ∙ (map_map (after t todo) (arrive_to st.clock p.job.number b) (map came st.slots)
              ∙ ap (λ k. map (λ q. after t todo (arrive_to k p.job.number b q)) (map came st.slots)) c)),
        )

some_from : (t j b : ℕ) (q : Train) → takes t j b q ≡ true → (slots : List Slot) → Mem q (map came slots) → list_any (granted t j b) slots ≡ true
some_from t j b q y [] m = absurd m
some_from t j b q y (s ∷ slots) m = elim m [
  | inl e ↦ or_left _ _ (ap (takes t j b) e ∙ y)
  | inr n ↦ or_right (granted t j b s) _ (some_from t j b q y slots n)
]

pub calls_granted : (engines t : ℕ) (todo : List Train) (st : State) → st.clock ≡ t → Apart (λ p. p.job.number) todo → AllByRecursion Fair todo
    → AllByRecursion (λ p. Mem (cut t p) (map came st.slots)) todo → AllGranted engines st (flat_map (calls t) todo)
calls_granted engines t [] st c a f m = tt
calls_granted engines t (p ∷ todo) st c a f m = go (coming t p.arrivals) (turn p.job f.0.some_time p.arrivals t f.0.legal) (λ s d. calls_granted engines t todo s d a.1 f.1)
  where
    go : (o : Option ℕ) → Turn p.job t (upto t p.arrivals) (upto (t + 1) p.arrivals) o
        → ((s : State) → s.clock ≡ t → AllByRecursion (λ q. Mem (cut t q) (map came s.slots)) todo → AllGranted engines s (flat_map (calls t) todo))
        → AllGranted engines st (calls_of p.job.number o ++ flat_map (calls t) todo)
    go None (still e) rec = rec st c m.1
    go (Some b) (comes _ e free known) rec =
        let y : takes st.clock p.job.number b (cut t p) ≡ true
        = and_from _ _ (eq-eqb p.job.number p.job.number refl) (and_from _ _ (lt-ltb _ _ known) (le-leb _ _ (omega arith))) in
        let arr = arrive_to st.clock p.job.number b in
        let others = all_both (λ q. q.job.number ≡ p.job.number → ⊥) (λ q. Mem (cut t q) (map came st.slots)) (λ q. Mem (cut t q) (map came (map (arrive_at st.clock p.job.number b) st.slots)))
        (λ q ne k. subst (Mem (cut t q)) (sym (trains_arrive st.clock p.job.number b st.slots))
        (subst (λ r. Mem r (map arr (map came st.slots))) (arrive_other st.clock p.job.number b (cut t q) ne) (mem_map arr (map came st.slots) (cut t q) k)))
        todo a.0 m.1 in
        (some_from st.clock p.job.number b (cut t p) y st.slots m.0, rec (step st (arrive p.job.number b)) c others)
