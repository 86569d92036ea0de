-- An arrival on a board that runs is granted, or refused by one question.
use Rattle.std.proofs.Common.{◌≡◌, ◌≢◌, ℕ, suc, ◌+◌, ◌<◌, ◌≤◌, Bool, true, false, eqb, List, [], ◌∷◌, map, length, Option, Some, None, refl, sym, ap, ◌∙◌, subst, inl, inr, ◌&&◌, ◌||◌, arith}
use Rattle.std.specs.Prelude.{nat_le, nat_lt}
use Rattle.std.specs.List.{AllByRecursion, list_any}
use Rattle.std.proofs.lemmas.Bool.{and_parts, cases_Bool, eqb-true, leb-true}
use Rattle.board.specs.declared.refusal.Refusal.{Refusal}
use Rattle.board.specs.declared.refusal.Refusal.TheVariants.{Fault, NumberTaken, BoardFull, NoChoice, NoPlacement, NotResident, NoBranch, TooSoon, NoEngine, LastClock, ShortBuffer}
use Rattle.life.specs.Standing.{state_of}
use Rattle.resident.specs.declared.resident.Resident.{Resident}
use Rattle.resident.specs.Resident.{number_of}
use Rattle.running.specs.Arriving.{ArriveRefused, slot_of}
use Rattle.runs.specs.Events.{arrive, arrive_at, Event, expired, free_at, granted, play, run, start, step, tick}
use Rattle.runs.specs.Job.{Apart, Job}
use Rattle.runs.specs.Runs.{Granted}
use Rattle.runs.specs.State.{each, OpenTask, Slot, State}
use Rattle.seated.specs.Jobs.{jobs_of}

abbrev job_at : Slot → Job
job_at s = s.job

each_jobs : (f : OpenTask → OpenTask) (ss : List Slot) → map job_at (map (each f) ss) ≡ map job_at ss
each_jobs f [] = refl
each_jobs f (s ∷ ss) = ap (λ l. s.job ∷ l) (each_jobs f ss)

arrive_job : (t n b : ℕ) (s : Slot) → (arrive_at t n b s).job ≡ s.job
arrive_job t n b s = elim (cases_Bool (granted t n b s)) [
  | inl y ↦ rw y refl
  | inr x ↦ rw x refl
]

arrive_jobs : (t n b : ℕ) (ss : List Slot) → map job_at (map (arrive_at t n b) ss) ≡ map job_at ss
arrive_jobs t n b [] = refl
arrive_jobs t n b (s ∷ ss) = ap (λ (j : Job). j ∷ map job_at (map (arrive_at t n b) ss)) (arrive_job t n b s) ∙ ap (λ l. s.job ∷ l) (arrive_jobs t n b ss)

-- an event leaves the jobs as they are
step_jobs : (st : State) (e : Event) → map job_at (step st e).slots ≡ map job_at st.slots
step_jobs st (arrive n b) = arrive_jobs st.clock n b st.slots
step_jobs st (tick served done) = each_jobs (expired (st.clock + 1)) (run st.clock served done st.slots) ∙ each_jobs _ st.slots

play_jobs : (st : State) (es : List Event) → map job_at (play st es).slots ≡ map job_at st.slots
play_jobs st [] = refl
play_jobs st (e ∷ es) = play_jobs (step st e) es ∙ step_jobs st e

start_jobs : (js : List Job) → map job_at (start js).slots ≡ js
start_jobs [] = refl
start_jobs (j ∷ js) = ap (λ l. j ∷ l) (start_jobs js)

pub run_jobs : (rs : List Resident) (es : List Event) → map job_at (state_of rs es).slots ≡ jobs_of rs
run_jobs rs es = play_jobs (start (jobs_of rs)) es ∙ start_jobs (jobs_of rs)

-- no two slots are of jobs with one number
apart_moves : (ss : List Slot) (rs : List Resident) → map job_at ss ≡ jobs_of rs → Apart number_of rs → Apart (λ (s : Slot). s.job.number) ss
apart_moves [] rs same apart = tt
apart_moves (s ∷ ss) [] same apart = absurd (omega (arith, ap length same))
apart_moves (s ∷ ss) (r ∷ rs) same apart =
    let here : s.job.number ≡ number_of r = cc in
    let rest : map job_at ss ≡ jobs_of rs = cc in
    (others ss rs rest (subst (λ (n : ℕ). AllByRecursion (λ (q : Resident). number_of q ≢ n) rs) (sym here) apart.0), apart_moves ss rs rest apart.1) where
      others : (xs : List Slot) (qs : List Resident) → map job_at xs ≡ jobs_of qs → AllByRecursion (λ (q : Resident). number_of q ≢ s.job.number) qs → AllByRecursion (λ (x : Slot). x.job.number ≢ s.job.number) xs
      others [] qs same all = tt
      others (x ∷ xs) [] same all = absurd (omega (arith, ap length same))
      others (x ∷ xs) (q ∷ qs) same all =
          let one : x.job.number ≡ number_of q = cc in
          let more : map job_at xs ≡ jobs_of qs = cc in
          ((λ is. all.0 (sym one ∙ is)), others xs qs more all.1)

module _ (t n b : ℕ) where
  none_granted : (ss : List Slot) → AllByRecursion (λ (x : Slot). x.job.number ≢ n) ss → list_any (granted t n b) ss ≡ true → ⊥
  none_granted [] all any = let z : ◌≡◌ {A = Bool} false true = any in cc
  none_granted (s ∷ ss) all any = elim (cases_Bool (granted t n b s)) [
    | inl yes' ↦ all.0 (eqb-true s.job.number n (and_parts (eqb s.job.number n) _ yes').0)
    | inr no' ↦ none_granted ss all.1 (sym (ap (λ (c : Bool). c || list_any (granted t n b) ss) no') ∙ any)
  ]

  slot_here : (s : Slot) (ss : List Slot) → eqb s.job.number n ≡ true → slot_of n (s ∷ ss) ≡ Some s
  slot_here s ss is = rw is refl

  slot_past : (s : Slot) (ss : List Slot) → eqb s.job.number n ≡ false → slot_of n (s ∷ ss) ≡ slot_of n ss
  slot_past s ss is = rw is refl

  -- the slot that grants an arrival is that of the job
  granted_by : (ss : List Slot) → Apart (λ (s : Slot). s.job.number) ss → list_any (granted t n b) ss ≡ true → (s : Slot) × (slot_of n ss ≡ Some s) × (granted t n b s ≡ true)
  granted_by [] apart any = absurd (let z : ◌≡◌ {A = Bool} false true = any in cc)
  granted_by (s ∷ ss) apart any = elim (cases_Bool (eqb s.job.number n)) [
    | inl yes' ↦ elim (cases_Bool (granted t n b s)) [
      | inl grants ↦ (s, slot_here s ss yes', grants)
      | inr refuses ↦
          let same = eqb-true s.job.number n yes' in
          absurd (none_granted ss (subst (λ (m : ℕ). AllByRecursion (λ (x : Slot). x.job.number ≢ m) ss) same apart.0) (sym (ap (λ (c : Bool). c || list_any (granted t n b) ss) refuses) ∙ any))
    ]
    | inr no' ↦
        let refuses : granted t n b s ≡ false = ap (λ (c : Bool). c && (nat_lt b (length s.job.branches) && nat_le (free_at s.job s.arrivals) t)) no' in
        let (x, found, grants) = granted_by ss apart.1 (sym (ap (λ (c : Bool). c || list_any (granted t n b) ss) refuses) ∙ any) in
        (x, slot_past s ss no' ∙ found, grants)
  ]

-- which question an arrival fails
data Fails (st : State) (n b : ℕ) : Refusal → Type 0 where
  nobody : slot_of n st.slots ≡ None → Fails st n b NotResident
  branch : (s : Slot) → slot_of n st.slots ≡ Some s → length s.job.branches ≤ b → Fails st n b NoBranch
  soon : (s : Slot) → slot_of n st.slots ≡ Some s → b < length s.job.branches → st.clock < free_at s.job s.arrivals → Fails st n b TooSoon

fails : (st : State) (n b : ℕ) (f : Refusal) → ArriveRefused st n b f → Fails st n b f
fails st n b (Fault f) refused = absurd refused
fails st n b NumberTaken refused = absurd refused
fails st n b BoardFull refused = absurd refused
fails st n b NoChoice refused = absurd refused
fails st n b NoPlacement refused = absurd refused
fails st n b NotResident refused = nobody refused
fails st n b NoBranch (s, found, few) = branch s found few
fails st n b TooSoon (s, found, low, early) = soon s found low early
fails st n b NoEngine refused = absurd refused
fails st n b LastClock refused = absurd refused
fails st n b ShortBuffer refused = absurd refused

one_slot : (o : Option Slot) (s x : Slot) → o ≡ Some s → o ≡ Some x → s ≡ x
one_slot o s x a b = let is : Some s ≡ Some x = sym a ∙ b in cc

no_slot : {A : Type 0} (o : Option Slot) (s : Slot) → o ≡ None → o ≡ Some s → A
no_slot o s a b = absurd (let is : ◌≡◌ {A = Option Slot} None (Some s) = sym a ∙ b in cc)

module _ (st : State) (n b : ℕ) where
  one_failed : (f g : Refusal) → Fails st n b f → Fails st n b g → f ≡ g
  one_failed f g (nobody a) (nobody c) = refl
  one_failed f g (nobody a) (branch s c few) = no_slot (slot_of n st.slots) s a c
  one_failed f g (nobody a) (soon s c low early) = no_slot (slot_of n st.slots) s a c
  one_failed f g (branch s a few) (nobody c) = no_slot (slot_of n st.slots) s c a
  one_failed f g (branch s a few) (branch x c more) = refl
  one_failed f g (branch s a few) (soon x c low early) = let same = ap (λ (y : Slot). length y.job.branches) (one_slot (slot_of n st.slots) s x a c) in absurd (omega arith)
  one_failed f g (soon s a low early) (nobody c) = no_slot (slot_of n st.slots) s c a
  one_failed f g (soon s a low early) (branch x c few) = let same = ap (λ (y : Slot). length y.job.branches) (one_slot (slot_of n st.slots) s x a c) in absurd (omega arith)
  one_failed f g (soon s a low early) (soon x c more sooner) = refl

  pub one_arrival_refusal : (f g : Refusal) → ArriveRefused st n b f → ArriveRefused st n b g → f ≡ g
  one_arrival_refusal f g a c = one_failed f g (fails st n b f a) (fails st n b g c)

  fails_not : (s : Slot) → slot_of n st.slots ≡ Some s → granted st.clock n b s ≡ true → (f : Refusal) → Fails st n b f → ⊥
  fails_not s found grants f (nobody a) = no_slot (slot_of n st.slots) s a found
  fails_not s found grants f (branch x a few) =
      let parts = and_parts (eqb s.job.number n) _ grants in
      let low = leb-true (suc b) (length s.job.branches) (and_parts (nat_lt b (length s.job.branches)) _ parts.1).0 in
      let same = ap (λ (y : Slot). length y.job.branches) (one_slot (slot_of n st.slots) s x found a) in
      omega arith
  fails_not s found grants f (soon x a low early) =
      let parts = and_parts (eqb s.job.number n) _ grants in
      let free = leb-true (free_at s.job s.arrivals) st.clock (and_parts (nat_lt b (length s.job.branches)) _ parts.1).1 in
      let same = ap (λ (y : Slot). free_at y.job y.arrivals) (one_slot (slot_of n st.slots) s x found a) in
      omega arith

  pub granted_not_refused : (engines : ℕ) (rs : List Resident) → map job_at st.slots ≡ jobs_of rs → Apart number_of rs → Granted engines st (arrive n b) → (f : Refusal) → ArriveRefused st n b f → ⊥
  granted_not_refused engines rs jobs apart grants f refused =
      let (s, found, here) = granted_by st.clock n b st.slots (apart_moves st.slots rs jobs apart) grants in
      fails_not s found here f (fails st n b f refused)
