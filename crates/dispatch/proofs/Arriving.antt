-- A board that begins to run, and what an arrival opens in it.
use Rattle.std.proofs.Common.{◌≡◌, ℕ, suc, ◌+◌, ◌<◌, ◌≤◌, Bool, true, false, cond, ◌==◌, List, [], ◌∷◌, length, get_or, take, map, Some, None, refl, sym, ap, ◌∙◌, inl, inr, arith}
use Rattle.std.proofs.lemmas.Bool.{and_parts, cases_Bool, eqb-true}
use Rattle.std.proofs.lemmas.Bool.Decides.{nat_tests}
use Rattle.std.proofs.lemmas.List.{take-map}
use Rattle.std.specs.List.{list_all}
use Rattle.dispatch.specs.declared.phase.Phase.TheVariants.{Ready, Waiting}
use Rattle.dispatch.specs.declared.slot.Slot.{Slot}
use Rattle.dispatch.specs.declared.sub_task.SubTask.{SubTask}
use Rattle.dispatch.specs.Kept.{kept_task}
use Rattle.dispatch.specs.Opening.{opened_at, opened_in, replaced, sub_task}
use Rattle.dispatch.specs.Phase.{meaning}
use Rattle.dispatch.specs.Slot.{in_time, phase_in_time, slot_in_time, tasks_in}
use Rattle.dispatch.specs.Table.{last_shown, numbered, shown, slot_shown}
use Rattle.runs.specs.Events.{opened, start}
use Rattle.runs.specs.State.{pending}

-- slots of these jobs with nothing open
idle_shown : (s : Slot) (n : ℕ) → s.job ≡ n → s.last ≡ None → s.len ≡ 0 → slot_shown s ≡ record { job = numbered n; arrivals = []; tasks = [] }
idle_shown s n j o l =
    ap (λ v. record { job = numbered s.job; arrivals = last_shown v; tasks = map (shown s.job) (tasks_in s) }) o
    ∙ (ap (λ k. record { job = numbered s.job; arrivals = []; tasks = map (shown s.job) (take k s.tasks) }) l
    ∙ ap (λ m. record { job = numbered m; arrivals = []; tasks = [] }) j)

idle_in_time : (t : ℕ) (s : Slot) → s.len ≡ 0 → slot_in_time t s ≡ true
idle_in_time t s l = ap (λ k. list_all (in_time t) (take k s.tasks)) l

abbrev pub Idles : List ℕ → List Slot → Type 0
Idles ns ss = (i : ℕ) (d : Slot) → i < length ns → ((get_or ss i d).job ≡ get_or ns i 0) × ((get_or ss i d).last ≡ None) × ((get_or ss i d).len ≡ 0)

pub start_is : (ns : List ℕ) (ss : List Slot) → length ns ≤ length ss → Idles ns ss → map slot_shown (take (length ns) ss) ≡ (start (map numbered ns)).slots
start_is [] ss few h = refl
start_is (n ∷ ns) [] few h = absurd (omega arith)
start_is (n ∷ ns) (s ∷ ss) few h =
    let here = h 0 s (omega arith) in
    rw (idle_shown s n here.0 here.1 here.2) (ap (λ l. record { job = numbered n; arrivals = []; tasks = [] } ∷ l) (start_is ns ss (omega arith) (λ i d low. h (suc i) d (omega arith))))

pub start_in_time : (t : ℕ) (ns : List ℕ) (ss : List Slot) → length ns ≤ length ss → Idles ns ss → list_all (slot_in_time t) (take (length ns) ss) ≡ true
start_in_time t [] ss few h = refl
start_in_time t (n ∷ ns) [] few h = absurd (omega arith)
start_in_time t (n ∷ ns) (s ∷ ss) few h =
    let here = h 0 s (omega arith) in
    rw (idle_in_time t s here.2) (start_in_time t ns ss (omega arith) (λ i d low. h (suc i) d (omega arith)))

-- an arrival
pending_by : (b : Bool) (n : ℕ) → meaning (cond b (Ready n) (Waiting n)) ≡ pending n
pending_by true n = refl
pending_by false n = refl

opened_in_time : (t o n : ℕ) (b : Bool) → (o == 0) ≡ b → phase_in_time t (t + o) (cond b (Ready n) (Waiting n)) ≡ true
opened_in_time t o n true is = grind (arith, nat_tests)
opened_in_time t o n false is = grind (arith, nat_tests)

shown_opened : (n t : ℕ) (w : SubTask) → shown n (opened_at t w) ≡ kept_task (opened n t (sub_task w))
shown_opened n t w = ap (λ f. record { task = (shown n (opened_at t w)).task; phase = f }) (pending_by (w.offset == 0) w.ticks)

all_opened : (n t : ℕ) (ws : List SubTask) → map (shown n) (map (opened_at t) ws) ≡ map (λ w. kept_task (opened n t (sub_task w))) ws
all_opened n t [] = refl
all_opened n t (w ∷ ws) = rw (shown_opened n t w) (ap (λ l. kept_task (opened n t (sub_task w)) ∷ l) (all_opened n t ws))

opened_all_in_time : (t : ℕ) (ws : List SubTask) → list_all (in_time t) (map (opened_at t) ws) ≡ true
opened_all_in_time t [] = refl
opened_all_in_time t (w ∷ ws) = rw (opened_in_time t w.offset w.ticks (w.offset == 0) refl) (opened_all_in_time t ws)

module _ (t n : ℕ) (ws : List SubTask) (f : Slot) (job : f.job ≡ n) (last : f.last ≡ Some t) (tasks : tasks_in f ≡ map (opened_at t) ws) where
  fresh : (m : ℕ) → m ≡ n → slot_shown f ≡ record { job = numbered m; arrivals = record { time = t; branch = 0 } ∷ []; tasks = map (λ w. kept_task (opened n t (sub_task w))) ws }
  fresh m is =
      ap (λ o. record { job = numbered f.job; arrivals = last_shown o; tasks = map (shown f.job) (tasks_in f) }) last
      ∙ (ap (λ l. record { job = numbered f.job; arrivals = record { time = t; branch = 0 } ∷ []; tasks = map (shown f.job) l }) tasks
      ∙ (ap (λ k. record { job = numbered k; arrivals = record { time = t; branch = 0 } ∷ []; tasks = map (shown k) (map (opened_at t) ws) }) job
      ∙ (ap (λ l. record { job = numbered n; arrivals = record { time = t; branch = 0 } ∷ []; tasks = l }) (all_opened n t ws)
      ∙ ap (λ k. record { job = numbered k; arrivals = record { time = t; branch = 0 } ∷ []; tasks = map (λ w. kept_task (opened n t (sub_task w))) ws }) (sym is))))

  in_one : (s : Slot) → slot_shown (replaced f s) ≡ opened_in n t ws (slot_shown s)
  in_one s = ap (λ k. slot_shown (cond (s.job == k) f s)) job ∙ elim (cases_Bool (s.job == n)) [
    | inl y ↦ rw y (fresh s.job (eqb-true s.job n y))
    | inr off ↦ rw off refl
  ]

  in_all : (ss : List Slot) → map slot_shown (map (replaced f) ss) ≡ map (opened_in n t ws) (map slot_shown ss)
  in_all [] = refl
  in_all (s ∷ ss) = rw (in_one s) (ap (λ l. opened_in n t ws (slot_shown s) ∷ l) (in_all ss))

  pub opens : (len : ℕ) (ss ys : List Slot) → ys ≡ map (replaced f) ss → map slot_shown (take len ys) ≡ map (opened_in n t ws) (map slot_shown (take len ss))
  opens len ss ys is = ap (λ l. map slot_shown (take len l)) is ∙ (ap (map slot_shown) (take-map (replaced f) len ss) ∙ in_all (take len ss))

  fresh_in_time : slot_in_time t f ≡ true
  fresh_in_time = ap (list_all (in_time t)) tasks ∙ opened_all_in_time t ws

  one_in_time : (s : Slot) → slot_in_time t s ≡ true → slot_in_time t (replaced f s) ≡ true
  one_in_time s was = elim (cases_Bool (s.job == f.job)) [ inl y ↦ rw y fresh_in_time | inr off ↦ rw off was ]

  all_in_time : (ss : List Slot) → list_all (slot_in_time t) ss ≡ true → list_all (slot_in_time t) (map (replaced f) ss) ≡ true
  all_in_time [] was = refl
  all_in_time (s ∷ ss) was = let both = and_parts (slot_in_time t s) (list_all (slot_in_time t) ss) was in rw (one_in_time s both.0) (all_in_time ss both.1)

  pub opens_in_time : (len : ℕ) (ss ys : List Slot) → ys ≡ map (replaced f) ss → list_all (slot_in_time t) (take len ss) ≡ true → list_all (slot_in_time t) (take len ys) ≡ true
  opens_in_time len ss ys is was = ap (λ l. list_all (slot_in_time t) (take len l)) is ∙ (ap (list_all (slot_in_time t)) (take-map (replaced f) len ss) ∙ all_in_time (take len ss) was)
