-- Late when overloaded.
use Rattle.std.proofs.Common.{◌≡◌, ℕ, ◌+◌, ◌-◌, ◌<◌, ◌≤◌, true, false, nat_lt, List, [], ◌∷◌, map, reverse, length, drop, sum_by, refl, sym, ap, ◌∙◌, subst, inl, inr, arith, zero, suc, ◌*◌, ◌%◌, ◌⊎◌}
use Rattle.std.specs.List.{AllByRecursion}
use Rattle.std.proofs.lemmas.Bool.{cases_eq, cases_lt, le-ltb, lt-ltb}
use Rattle.std.proofs.lemmas.List.Sums.{sum_by-cons}
use Rattle.theory.specs.Pattern.{Arrival, demand_in, part, WellFormed}
use Rattle.theory.specs.Demand.{demand}
use Rattle.runs.specs.Job.{Apart, asked, Distinct, Fits, Job, pattern_on, Sound}
use Rattle.runs.specs.Events.{Event, play, start}
use Rattle.runs.specs.Runs.{Lawful, masks, Quiet, Run, served_ticks}
use Rattle.runs.proofs.Lists.{all_both, all_map, all_unmap, all_weaker}
use Rattle.runs.proofs.Sums.{sum_map, sum_same}
use Rattle.runs.proofs.Arrivals.{arrivals_legal, branches_are, demand_reverse, Legal, well_formed}
use Rattle.runs.proofs.Trains.{came, cut, Fair, Train, upto}
use Rattle.std.proofs.Math.Nat.{mod-eq_of_lt}
use Rattle.theory.proofs.Settles.{twice_settles_all}
use Rattle.theory.proofs.Trains.{demand_is_met}
use Rattle.theory.proofs.Windows.{best_at, best_short}
use Rattle.runs.specs.Theorems.{LateWhenOverloaded}
use Rattle.runs.proofs.Keys.{apart_map}
use Rattle.runs.proofs.Overload.{asked_so_far, overload_is_late}
use Rattle.runs.proofs.Story.{story, story_at, story_served, story_silent, story_supplied}

-- what a train asks
abbrev asks_of : (e x y : ℕ) → Train → ℕ
asks_of e x y p = demand_in (pattern_on e p.job) p.arrivals x y

-- arrivals from y on have no window that closes by y
upto_asks : (engines e x y : ℕ) (j : Job) → Sound engines j → (l : List Arrival) → Legal j l → demand_in (pattern_on e j) l x y ≡ demand_in (pattern_on e j) (upto y l) x y
upto_asks engines e x y j sound [] legal = refl
upto_asks engines e x y j sound (a ∷ rest) legal = elim (cases_lt a.time y) [
  | inl l ↦ let before : nat_lt a.time y ≡ true = lt-ltb _ _ l in rw before refl
  | inr l ↦
      let off : nat_lt a.time y ≡ false = le-ltb _ _ l in
      let pat = pattern_on e j in
      let ok = well_formed engines e j sound in
      let known : a.branch < length pat.branches = omega (arith, legal.1, branches_are e j) in
      let none = best_at pat ok (x - a.time) (y - a.time) a.branch known in
      let short = best_short pat ok (x - a.time) (y - a.time) (omega arith) in
      rw off (omega (arith, upto_asks engines e x y j sound rest legal.2, sum_by-cons (part pat x y) a rest))
]

-- arrivals of all jobs that meet their demands on the engine e in the n ticks from x on
record Met (e x n : ℕ) (jobs : List Job) : Type 0 where
  trains : List Train
  jobs_are : map (λ p. p.job) trains ≡ jobs
  legal : AllByRecursion (λ p. Legal p.job p.arrivals) trains
  reached : sum_by (asks_of e x (x + n)) trains ≡ asked e jobs n

met : (engines e x n : ℕ) (jobs : List Job) → AllByRecursion (Sound engines) jobs → AllByRecursion (λ j. j.deadline ≤ x) jobs → Met e x n jobs
met engines e x n [] sound soon = record { trains = []; jobs_are = refl; legal = tt; reached = refl }
met engines e x n (j ∷ jobs) sound soon =
    let rec = met engines e x n jobs sound.1 soon.1 in
    let (arrivals, are, _, most) = demand_is_met (pattern_on e j) (well_formed engines e j sound.0) n x soon.0 in
    let p : Train = record { job = j; arrivals = reverse arrivals } in
    record {
      trains = p ∷ rec.trains;
      jobs_are = ap (λ js. j ∷ js) rec.jobs_are;
      legal = (arrivals_legal e j arrivals are, rec.legal);
      reached = omega (
        arith,
        rec.reached,
        demand_reverse e j arrivals x (x + n),
        sum_by-cons (asks_of e x (x + n)) p rec.trains,
        sum_by-cons (λ q. demand q n) (pattern_on e j) (map (pattern_on e) jobs),
      );
    }

-- a period that divides a belt cycle is no longer than it, and so is a deadline within
pub soon : (engines : ℕ) (j : Job) → Sound engines j → j.deadline ≤ 14400
soon engines j sound = elim (cases_lt 14400 j.period) [
  | inl long ↦
      let same : 14400 % j.period ≡ 14400 = mod-eq_of_lt long in
      absurd (omega (arith, sound.divides))
  | inr short ↦ omega (arith, sound.within_period)
]

-- in some number of ticks up to r the engine e is overloaded, or in none
abbrev pub Overloaded : (ℕ → ℕ → ℕ) → List Job → ℕ → ℕ → Type 0
Overloaded supply jobs e r = (n : ℕ) × (n ≤ r) × (supply e n < asked e jobs n)

overloaded_or_not : (supply : ℕ → ℕ → ℕ) (jobs : List Job) (e r : ℕ) → Overloaded supply jobs e r ⊎ ((n : ℕ) → n ≤ r → asked e jobs n ≤ supply e n)
overloaded_or_not supply jobs e zero = elim (cases_lt (supply e 0) (asked e jobs 0)) [
  | inl over ↦ inl (0, omega arith, over)
  | inr fits ↦ inr (λ n l. let z : n ≡ 0 = omega arith in rw z fits)
]
overloaded_or_not supply jobs e (suc r) = elim (cases_lt (supply e (suc r)) (asked e jobs (suc r))) [
  | inl over ↦ inl (suc r, omega arith, over)
  | inr fits ↦ elim (overloaded_or_not supply jobs e r) [
    | inl f ↦ inl (f.0, omega (arith, f.1), f.2)
    | inr all ↦ inr (λ n l. elim (cases_eq n (suc r)) [ inl q ↦ rw q fits | inr ne ↦ all n (omega arith) ])
  ]
]

-- the jobs fit on an engine, or ask too much of it in some number of ticks within two belt cycles
pub fits_or_overloaded : (engines : ℕ) (supply : ℕ → ℕ → ℕ) (jobs : List Job) (e : ℕ) → Lawful (supply e) → AllByRecursion (Sound engines) jobs
    → Fits supply jobs e ⊎ Overloaded supply jobs e (2 * 14400)
fits_or_overloaded engines supply jobs e law sound = elim (overloaded_or_not supply jobs e (2 * 14400)) [
  | inl f ↦ inr f
  | inr all ↦
      let formed = all_map WellFormed (pattern_on e) jobs (all_weaker (Sound engines) (λ j. WellFormed (pattern_on e j)) (λ j s. well_formed engines e j s) jobs sound) in
      let divide = all_map (λ p. 14400 % p.period ≡ 0) (pattern_on e) jobs (all_weaker (Sound engines) (λ j. 14400 % j.period ≡ 0) (λ j s. s.divides) jobs sound) in
      inl (twice_settles_all 14400 (omega arith) (map (pattern_on e) jobs) formed divide (supply e) law.joins (λ k some few. all k few))
]

-- the run from a belt cycle on, which no deadline passes
late_within :
    (engines : ℕ) (supply : ℕ → ℕ → ℕ) (jobs : List Job)
    → ((e : ℕ) → e < engines → Lawful (supply e)) → AllByRecursion (Sound engines) jobs → Distinct jobs
    → (e n : ℕ) → e < engines → n ≤ 2 * 14400 → supply e n < asked e jobs n
    → (events : List Event) × Run engines supply jobs events × AllByRecursion Quiet events × (1 ≤ (play (start jobs) events).lates)
late_within engines supply jobs laws sound distinct e n known few over =
    let x : ℕ = 14400 in
    let y = x + n in
    let w = met engines e x n jobs sound (all_weaker (Sound engines) (λ j. j.deadline ≤ x) (soon engines) jobs sound) in
    let ps = w.trains in
    let es = story engines supply x ps y in
    let each_sound = all_unmap (Sound engines) (λ (p : Train). p.job) ps (subst (AllByRecursion (Sound engines)) (sym w.jobs_are) sound) in
    let apart = apart_map (λ (j : Job). j.number) (λ (p : Train). p.job) ps (subst (Apart (λ j. j.number)) (sym w.jobs_are) distinct.numbers) in
    let fair = all_both (λ p. Legal p.job p.arrivals) (λ p. Sound engines p.job) Fair (λ p l s. record { legal = l; some_time = omega (arith, s.within_period, s.some_time) }) ps w.legal each_sound in
    let i = story_at engines supply x jobs ps w.jobs_are apart fair y (omega arith) in
    let st = play (start jobs) es in
    let cuts = sum_same (λ p. asks_of e x y p ≡ asks_of e x y (cut y p)) (asks_of e x y) (λ p. asks_of e x y (cut y p)) (λ p h. h) ps
    (all_both (λ p. Legal p.job p.arrivals) (λ p. Sound engines p.job) (λ p. asks_of e x y p ≡ asks_of e x y (cut y p))
    (λ p l s. upto_asks engines e x y p.job s p.arrivals l) ps w.legal each_sound) in
    let seen : asked_so_far e x st.clock st ≡ sum_by (asks_of e x y) ps
    = ap (λ k. asked_so_far e x k st) i.clock_is
    ∙ (sym (sum_map (asks_of e x y) came st.slots)
    ∙ (ap (sum_by (asks_of e x y)) i.trains_are ∙ (sum_map (asks_of e x y) (cut y) ps ∙ sym cuts))) in
    let served = story_served engines supply x ps e known (laws e known) x y (omega arith) in
    let a : x - x ≡ 0 = omega arith in
    let b : y - x ≡ n = omega arith in
    let none = (laws e known).none in
    let short : served_ticks e (drop x (masks es)) < asked_so_far e x st.clock st = omega (arith, w.reached, ap (supply e) a, ap (supply e) b) in (
      es,
      record { all_granted = i.all_granted; supplied = story_supplied engines supply x ps laws y },
      story_silent engines supply x ps y,
      overload_is_late engines jobs es sound distinct (story_silent engines supply x ps y) e x short,
    )

pub late_when_overloaded : LateWhenOverloaded
late_when_overloaded engines supply jobs laws sound distinct e n known over = elim (fits_or_overloaded engines supply jobs e (laws e known) sound) [
  | inl fits ↦ absurd (omega (arith, fits n))
  | inr f ↦ late_within engines supply jobs laws sound distinct e f.0 known f.1 f.2
]
