-- What an arrival and a tick do to what a board keeps, they do not owe to the rest.
use Rattle.std.specs.Prelude.{◌≡◌, ℕ, ◌+◌, Bool, cond, ◌&&◌, ◌||◌, ◌==◌, nat_le, nat_lt, List, [], ◌∷◌, length, map, fold, count_by, Option, Some, None, refl}
use Rattle.std.specs.List.{list_any}
use Rattle.std.proofs.Common.{ap, sym, ◌∙◌, inl, inr, arith}
use Rattle.std.proofs.lemmas.Bool.{cases_Bool}
use Rattle.std.proofs.lemmas.List.Sums.{fold-append, sum_by-append, sum_by-cons}
use Rattle.dispatch.specs.Kept.{kept, kept_arrivals, kept_slot, kept_task}
use Rattle.runs.specs.Events.{advance, arrive, arrive_at, Event, expired, free_at, granted, overdue, run, serve, start, step, tick}
use Rattle.runs.specs.Job.{Job}
use Rattle.runs.specs.Next.{better, Key, next}
use Rattle.runs.specs.State.{each, in_phase, OpenTask, Slot, State, tasks_of}
use Rattle.theory.specs.Pattern.{Arrival}

fold_kept : (e t : ℕ) (o : Option Key) (ps : List OpenTask) → fold (better e t) o (map kept_task ps) ≡ fold (better e t) o ps
fold_kept e t o [] = refl
fold_kept e t o (p ∷ ps) = fold_kept e t (better e t o p) ps

fold_all_kept : (e t : ℕ) (o : Option Key) (ss : List Slot) → fold (better e t) o (tasks_of (map kept_slot ss)) ≡ fold (better e t) o (tasks_of ss)
fold_all_kept e t o [] = refl
fold_all_kept e t o (s ∷ ss) =
    fold-append (better e t) o (map kept_task s.tasks) (tasks_of (map kept_slot ss))
    ∙ (ap (λ r. fold (better e t) r (tasks_of (map kept_slot ss))) (fold_kept e t o s.tasks)
    ∙ (fold_all_kept e t (fold (better e t) o s.tasks) ss
    ∙ sym (fold-append (better e t) o s.tasks (tasks_of ss))))

-- what an engine runs next
pub kept_next : (e t : ℕ) (ss : List Slot) → next e t (tasks_of (map kept_slot ss)) ≡ next e t (tasks_of ss)
kept_next e t ss = fold_all_kept e t None ss

module _ (f g : OpenTask → OpenTask) (same : (p : OpenTask) → kept_task (f p) ≡ g (kept_task p)) where
  tasks_kept : (ps : List OpenTask) → map kept_task (map f ps) ≡ map g (map kept_task ps)
  tasks_kept [] = refl
  tasks_kept (p ∷ ps) = rw (same p) (ap (λ l. g (kept_task p) ∷ l) (tasks_kept ps))

  slots_kept : (ss : List Slot) → map kept_slot (map (each f) ss) ≡ map (each g) (map kept_slot ss)
  slots_kept [] = refl
  slots_kept (s ∷ ss) = rw (tasks_kept s.tasks) (ap (λ l. each g (kept_slot s) ∷ l) (slots_kept ss))

count_kept : (t : ℕ) (ps : List OpenTask) → count_by (overdue t) (map kept_task ps) ≡ count_by (overdue t) ps
count_kept t [] = refl
count_kept t (p ∷ ps) = omega (arith, count_kept t ps, sum_by-cons (λ q. cond (overdue t q) 1 0) (kept_task p) (map kept_task ps), sum_by-cons (λ q. cond (overdue t q) 1 0) p ps)

count_all_kept : (t : ℕ) (ss : List Slot) → count_by (overdue t) (tasks_of (map kept_slot ss)) ≡ count_by (overdue t) (tasks_of ss)
count_all_kept t [] = refl
count_all_kept t (s ∷ ss) = omega (
  arith,
  count_kept t s.tasks,
  count_all_kept t ss,
  sum_by-append (λ q. cond (overdue t q) 1 0) (map kept_task s.tasks) (tasks_of (map kept_slot ss)),
  sum_by-append (λ q. cond (overdue t q) 1 0) s.tasks (tasks_of ss),
)

serve_kept : (o : Option Key) (served done : Bool) (p : OpenTask) → serve o served done p ≡ serve o served done (kept_task p)
serve_kept None served done p = refl
serve_kept (Some k) served done p = refl

-- a tick: it needs nothing that is not kept
pub kept_ticks : (st : State) (served done : ℕ → Bool) → kept (step st (tick served done)) ≡ step (kept st) (tick served done)
kept_ticks st served done =
    let t = st.clock in
    let choice : ℕ → Option Key = λ e. next e t (tasks_of st.slots) in
    let kept_choice : ℕ → Option Key = λ e. next e t (tasks_of (map kept_slot st.slots)) in
    let one : (p : OpenTask) → kept_task (advance choice served done p) ≡ advance kept_choice served done (kept_task p) = λ p.
    let e = p.task.engine in
    ap (in_phase (kept_task p)) (serve_kept (choice e) (served e) (done e) p ∙ ap (λ o. serve o (served e) (done e) (kept_task p)) (sym (kept_next e t st.slots))) in
    let was = run t served done st.slots in
    let ran : map kept_slot was ≡ run t served done (map kept_slot st.slots) = slots_kept (advance choice served done) (advance kept_choice served done) one st.slots in
    let slots : map kept_slot (map (each (expired (t + 1))) was) ≡ map (each (expired (t + 1))) (run t served done (map kept_slot st.slots)) =
    slots_kept (expired (t + 1)) (expired (t + 1)) (λ _. refl) was ∙ ap (map (each (expired (t + 1)))) ran in
    let late : count_by (overdue (t + 1)) (tasks_of was) ≡ count_by (overdue (t + 1)) (tasks_of (run t served done (map kept_slot st.slots))) =
    sym (count_all_kept (t + 1) was) ∙ ap (λ l. count_by (overdue (t + 1)) (tasks_of l)) ran in
    λ i. record { clock = t + 1; slots = slots i; lates = st.lates + late i }

-- what is kept of what is kept
tasks_again : (ps : List OpenTask) → map kept_task (map kept_task ps) ≡ map kept_task ps
tasks_again [] = refl
tasks_again (p ∷ ps) = ap (λ l. kept_task p ∷ l) (tasks_again ps)

arrivals_again : (came : List Arrival) → kept_arrivals (kept_arrivals came) ≡ kept_arrivals came
arrivals_again [] = refl
arrivals_again (a ∷ older) = refl

slot_again : (s : Slot) → kept_slot (kept_slot s) ≡ kept_slot s
slot_again s = λ i. record { job = s.job; arrivals = arrivals_again s.arrivals i; tasks = tasks_again s.tasks i }

slots_again : (ss : List Slot) → map kept_slot (map kept_slot ss) ≡ map kept_slot ss
slots_again [] = refl
slots_again (s ∷ ss) = rw (slot_again s) (ap (λ l. kept_slot s ∷ l) (slots_again ss))

pub kept_again : (st : State) → kept (kept st) ≡ kept st
kept_again st = λ i. record { clock = st.clock; slots = slots_again st.slots i; lates = st.lates }

-- an arrival
free_kept : (j : Job) (came : List Arrival) → free_at j (kept_arrivals came) ≡ free_at j came
free_kept j [] = refl
free_kept j (a ∷ older) = refl

module _ (t j b : ℕ) where
  granted_kept : (s : Slot) → granted t j b (kept_slot s) ≡ granted t j b s
  granted_kept s = ap (λ n. (s.job.number == j) && (nat_lt b (length s.job.branches) && nat_le n t)) (free_kept s.job s.arrivals)

  -- whether it is granted
  pub kept_granted : (ss : List Slot) → list_any (granted t j b) (map kept_slot ss) ≡ list_any (granted t j b) ss
  kept_granted [] = refl
  kept_granted (s ∷ ss) = rw (granted_kept s) (ap (λ r. granted t j b s || r) (kept_granted ss))

  arrive_kept : (s : Slot) → kept_slot (arrive_at t j b s) ≡ kept_slot (arrive_at t j b (kept_slot s))
  arrive_kept s = elim (cases_Bool (granted t j b s)) [
    | inl y ↦ rw (granted_kept s) (rw y refl)
    | inr n ↦ rw (granted_kept s) (rw n (sym (slot_again s)))
  ]

  all_arrive_kept : (ss : List Slot) → map kept_slot (map (arrive_at t j b) ss) ≡ map kept_slot (map (arrive_at t j b) (map kept_slot ss))
  all_arrive_kept [] = refl
  all_arrive_kept (s ∷ ss) = rw (arrive_kept s) (ap (λ l. kept_slot (arrive_at t j b (kept_slot s)) ∷ l) (all_arrive_kept ss))

-- any event
pub kept_steps : (st : State) (e : Event) → kept (step st e) ≡ kept (step (kept st) e)
kept_steps st (arrive j b) = λ i. record { clock = st.clock; slots = all_arrive_kept st.clock j b st.slots i; lates = st.lates }
kept_steps st (tick served done) = kept_ticks st served done ∙ (ap (λ s. step s (tick served done)) (sym (kept_again st)) ∙ sym (kept_ticks (kept st) served done))

-- how many sub-tasks were late so far
pub kept_lates : (st : State) (e : Event) → (step (kept st) e).lates ≡ (step st e).lates
kept_lates st (arrive j b) = refl
kept_lates st (tick served done) = ap (λ s. s.lates) (sym (kept_ticks st served done))

-- the start
starts_kept : (js : List Job) → map kept_slot (start js).slots ≡ (start js).slots
starts_kept [] = refl
starts_kept (j ∷ js) = ap (λ l. record { job = j; arrivals = []; tasks = [] } ∷ l) (starts_kept js)

pub kept_start : (js : List Job) → kept (start js) ≡ start js
kept_start js = λ i. record { clock = 0; slots = starts_kept js i; lates = 0 }
