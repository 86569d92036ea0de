-- What a tick does to a slot and to the table, as a run over lists has it.
use Rattle.std.proofs.Common.{◌≡◌, ℕ, ◌+◌, ◌<◌, ◌≤◌, Bool, true, false, cond, List, [], ◌∷◌, ◌++◌, get_or, take, drop, map, sum_by, count_by, Option, Some, None, nat_le, refl, ap, ◌∙◌, inl, inr, arith}
use Rattle.std.proofs.Math.Bridge.{le_prop}
use Rattle.std.proofs.lemmas.Bool.{cases_Bool}
use Rattle.std.proofs.lemmas.Bool.Decides.{nat_tests}
use Rattle.std.proofs.lemmas.List.Sums.{sum_by-append, sum_by-cons}
use Rattle.std.specs.List.{list_all}
use Rattle.std.specs.Option.{option_map}
use Rattle.dispatch.specs.declared.slot.Open.{Open}
use Rattle.dispatch.specs.declared.slot.Slot.{Slot}
use Rattle.dispatch.specs.declared.tick.Tick.{Tick}
use Rattle.dispatch.specs.Candidate.{named}
use Rattle.dispatch.specs.Phase.{meaning, phase_by}
use Rattle.dispatch.specs.Slot.{in_time, phase_in_time, slot_in_time, tasks_in}
use Rattle.dispatch.specs.Table.{shown, slot_shown}
use Rattle.dispatch.specs.Ticking.{keyed, late_by, masked, slot_late, slot_turned, turned, worked_by}
use Rattle.dispatch.proofs.Sweep.{take_kept}
use Rattle.runs.specs.Events.{advance, expired, overdue, serve, step, tick}
use Rattle.runs.specs.Next.{Key, next}
use Rattle.runs.specs.State.{each, finished, in_phase, late, OpenTask, pending, Phase as Model, tasks_of}
use Rattle.runs.proofs.Sums.{bit}

pub slot_same : (s : Slot) (ts us : List Open) (few : s.len ≤ 24) → ts ≡ us → ◌≡◌ {A = Slot} (record { job = s.job; last = s.last; tasks = ts; len = s.len; few = few }) (record s { tasks = us })
slot_same s ts us few is = λ i. record { job = s.job; last = s.last; tasks = is i; len = s.len; few = le_prop few s.few i }

-- what ran is what is next on the served engines
serve_same : (o : Option Key) (served done : Bool) (p : OpenTask) → serve (keyed (cond served (option_map named o) None)) true done p ≡ serve o served done p
serve_same None true done p = refl
serve_same None false done p = refl
serve_same (Some k) true done p = refl
serve_same (Some k) false done p = refl

meaning_by : (b : Bool) (m : Model) → meaning (phase_by b m) ≡ m
meaning_by true (pending n) = refl
meaning_by false (pending n) = refl
meaning_by b finished = refl
meaning_by b late = refl

in_time_by : (m : Model) (t r : ℕ) → phase_in_time t r (phase_by (nat_le r t) m) ≡ true
in_time_by (pending n) t r = elim (cases_Bool (nat_le r t)) [ inl y ↦ rw y y | inr n ↦ rw n (grind (arith, nat_tests)) ]
in_time_by finished t r = refl
in_time_by late t r = refl

module _ (k : Tick) (m : ℕ) (choice : ℕ → Option Key) (ran_is : (e : ℕ) → e < 16 → get_or k.ran e None ≡ cond (masked m e) (option_map named (choice e)) None) where
  abbrev pub after_work : OpenTask → OpenTask
  after_work = advance choice (masked m) (masked k.done)

  abbrev pub after_end : OpenTask → OpenTask
  after_end = expired (k.clock + 1)

  worked_same : (j : ℕ) (o : Open) → worked_by k j o ≡ after_work (shown j o)
  worked_same j o =
      ap (in_phase (shown j o)) (ap (λ r. serve (keyed r) true (masked k.done o.engine) (shown j o)) (ran_is o.engine o.placed)
      ∙ serve_same (choice o.engine) (masked m o.engine) (masked k.done o.engine) (shown j o))

  shown_turned : (j : ℕ) (o : Open) → shown j (turned k j o) ≡ after_end (after_work (shown j o))
  shown_turned j o = ap (in_phase (shown j o)) (meaning_by (nat_le o.release (k.clock + 1)) (after_end (worked_by k j o)).phase) ∙ ap after_end (worked_same j o)

  all_shown : (j : ℕ) (os : List Open) → map (shown j) (map (turned k j) os) ≡ map after_end (map after_work (map (shown j) os))
  all_shown j [] = refl
  all_shown j (o ∷ os) = rw (shown_turned j o) (ap (λ l. after_end (after_work (shown j o)) ∷ l) (all_shown j os))

  slot_after : (s : Slot) → slot_shown (slot_turned k s) ≡ each after_end (each after_work (slot_shown s))
  slot_after s = ap (λ ts. record { job = (slot_shown s).job; arrivals = (slot_shown s).arrivals; tasks = ts }) (ap (map (shown s.job)) (take_kept (turned k s.job) s.len s.tasks) ∙ all_shown s.job (tasks_in s))

  pub slots_after : (ss : List Slot) → map slot_shown (map (slot_turned k) ss) ≡ map (each after_end) (map (each after_work) (map slot_shown ss))
  slots_after [] = refl
  slots_after (s ∷ ss) = rw (slot_after s) (ap (λ l. each after_end (each after_work (slot_shown s)) ∷ l) (slots_after ss))

  late_in : (j : ℕ) (os : List Open) → count_by (overdue (k.clock + 1)) (map after_work (map (shown j) os)) ≡ count_by (late_by k j) os
  late_in j [] = refl
  late_in j (o ∷ os) =
      let here = ap (λ p. bit (overdue (k.clock + 1) p)) (worked_same j o) in
      omega (arith, here, late_in j os, sum_by-cons (λ p. bit (overdue (k.clock + 1) p)) (after_work (shown j o)) (map after_work (map (shown j) os)), sum_by-cons (λ v. bit (late_by k j v)) o os)

  pub late_after : (ss : List Slot) → count_by (overdue (k.clock + 1)) (tasks_of (map (each after_work) (map slot_shown ss))) ≡ sum_by (slot_late k) ss
  late_after [] = refl
  late_after (s ∷ ss) = omega (
    arith,
    late_in s.job (tasks_in s),
    late_after ss,
    sum_by-append (λ p. bit (overdue (k.clock + 1) p)) (map after_work (map (shown s.job) (tasks_in s))) (tasks_of (map (each after_work) (map slot_shown ss))),
    sum_by-cons (slot_late k) s ss,
  )

module _ (k : Tick) where
  all_in_time : (j : ℕ) (os : List Open) → list_all (in_time (k.clock + 1)) (map (turned k j) os) ≡ true
  all_in_time j [] = refl
  all_in_time j (o ∷ os) = rw (in_time_by (expired (k.clock + 1) (worked_by k j o)).phase (k.clock + 1) o.release) (all_in_time j os)

  slot_in_time_after : (s : Slot) → slot_in_time (k.clock + 1) (slot_turned k s) ≡ true
  slot_in_time_after s = ap (list_all (in_time (k.clock + 1))) (take_kept (turned k s.job) s.len s.tasks) ∙ all_in_time s.job (tasks_in s)

  pub slots_in_time : (ss : List Slot) → list_all (slot_in_time (k.clock + 1)) (map (slot_turned k) ss) ≡ true
  slots_in_time [] = refl
  slots_in_time (s ∷ ss) = rw (slot_in_time_after s) (slots_in_time ss)

-- the first slots of ys are those of xs after the tick k
module _ (k : Tick) (len : ℕ) (xs ys : List Slot) (after : ys ≡ map (slot_turned k) (take len xs) ++ drop len xs) where
  first_slots : take len ys ≡ map (slot_turned k) (take len xs)
  first_slots = ap (take len) after ∙ take_kept (slot_turned k) len xs

  pub still_in_time : list_all (slot_in_time (k.clock + 1)) (take len ys) ≡ true
  still_in_time = ap (list_all (slot_in_time (k.clock + 1))) first_slots ∙ slots_in_time k (take len xs)

  pub steps_are : (m total n : ℕ) → ((e : ℕ) → e < 16 → get_or k.ran e None ≡ cond (masked m e) (option_map named (next e k.clock (tasks_of (map slot_shown (take len xs))))) None) → n ≡ sum_by (slot_late k) (take len xs)
      → record { clock = k.clock + 1; slots = map slot_shown (take len ys); lates = total + n } ≡ step (record { clock = k.clock; slots = map slot_shown (take len xs); lates = total }) (tick (masked m) (masked k.done))
  steps_are m total n ran_is late_is =
      let ss = take len xs in
      let choice : ℕ → Option Key = λ e. next e k.clock (tasks_of (map slot_shown ss)) in
      let slots = ap (map slot_shown) first_slots ∙ slots_after k m choice ran_is ss in
      let lates : total + n ≡ total + count_by (overdue (k.clock + 1)) (tasks_of (map (each (after_work k m choice ran_is)) (map slot_shown ss))) = omega (arith, late_after k m choice ran_is ss, late_is) in
      λ i. record { clock = k.clock + 1; slots = slots i; lates = lates i }
