-- One slot: what holds of its open sub-tasks through arrivals and ticks.
use Rattle.std.proofs.Common.{◌≡◌, ℕ, ◌+◌, ◌<◌, ◌≤◌, Bool, true, false, cond, Option, List, [], map, length, sum_by, count_by, refl, sym, ap, ◌∙◌, arith}
use Rattle.std.specs.List.{AllByRecursion}
use Rattle.std.proofs.lemmas.Bool.{and_parts, leb-true, lt-leb, ltb-true}
use Rattle.std.proofs.lemmas.List.Sums.{sum_by-cons}
use Rattle.theory.specs.Pattern.{Arrival, demand_in, part}
use Rattle.runs.specs.Job.{branch_of, pattern_on, Sound, SoundTask}
use Rattle.runs.specs.State.{each, in_phase, late, OpenTask, Slot, State, tasks_of}
use Rattle.runs.specs.Next.{Key}
use Rattle.runs.specs.Events.{advance, arrive_at, arrived, expire, expired, free_at, granted, opened, overdue}
use Rattle.runs.proofs.Lists.{all_at, all_flat, all_map, all_unflat, all_weaker, cond_both, map_flat, map_same}
use Rattle.runs.proofs.Sums.{count_none, sum_flat, sum_le, sum_map, sum_same}
use Rattle.runs.proofs.Tasks.{Live, opened_owes, opened_wants, owed, serve_live, share_of, wanted}
use Rattle.runs.proofs.Arrivals.{Legal, part_is}

-- what the open sub-tasks of a slot due up to d owe the engine e, and what all arrivals of its job ask of e between x and d
abbrev pub owes : (e d : ℕ) → Slot → ℕ
owes e d s = sum_by (owed e d) s.tasks

abbrev pub asks : (e x d : ℕ) → Slot → ℕ
asks e x d s = demand_in (pattern_on e s.job) s.arrivals x d

-- a sub-task that is not late, one on an engine of the board, one that is due by n, and one that is not overdue
abbrev pub Alive : OpenTask → Type 0
Alive p = Live p.task.ticks p.phase

abbrev pub Placed : ℕ → OpenTask → Type 0
Placed engines p = p.task.engine < engines

abbrev pub Over : ℕ → OpenTask → Type 0
Over n p = p.task.due ≤ n

abbrev pub Timely : ℕ → OpenTask → Type 0
Timely t p = overdue t p ≡ false

pub record Good (engines : ℕ) (s : Slot) : Type 0 where
  pub sound : Sound engines s.job
  pub legal : Legal s.job s.arrivals
  pub covered : (e x d : ℕ) → sum_by (wanted e x d) s.tasks ≤ asks e x d s
  pub alive : AllByRecursion Alive s.tasks
  pub placed : AllByRecursion (Placed engines) s.tasks
  pub over : AllByRecursion (Over (free_at s.job s.arrivals)) s.tasks

-- one arrival more asks for its branch
pub asks_more : (e x d t b : ℕ) (s : Slot) → asks e x d (arrived t b s) ≡ sum_by (share_of e x d t) (branch_of s.job b) + asks e x d s
asks_more e x d t b s =
    let a : Arrival = record { time = t; branch = b } in
    omega (arith, sum_by-cons (part (pattern_on e s.job) x d) a s.arrivals, part_is e x d s.job a)

-- an arrival, in one slot
module _ (engines t b : ℕ) (s : Slot) (ok : Good engines s) (in_range : b < length s.job.branches) where
  new_windows : AllByRecursion (SoundTask engines s.job.deadline) (branch_of s.job b)
  new_windows = all_at (AllByRecursion (SoundTask engines s.job.deadline)) s.job.branches b [] in_range ok.sound.tasks

  pub wants : (e x d : ℕ) → sum_by (wanted e x d) (arrived t b s).tasks ≡ sum_by (share_of e x d t) (branch_of s.job b)
  wants e x d =
      sum_map (wanted e x d) (opened s.job.number t) (branch_of s.job b)
      ∙ sum_same (SoundTask engines s.job.deadline) (λ w. wanted e x d (opened s.job.number t w)) (share_of e x d t) (λ w h. opened_wants e x d s.job.number t w h.opens) (branch_of s.job b) new_windows

  arrived_work : (e x d : ℕ) → x ≤ t → owes e d (arrived t b s) + asks e x d s ≤ owes e d s + asks e x d (arrived t b s)
  arrived_work e x d l =
      let ws = branch_of s.job b in
      let a = sum_map (owed e d) (opened s.job.number t) ws in
      let c = sum_le (SoundTask engines s.job.deadline) (λ w. owed e d (opened s.job.number t w)) (share_of e x d t) (λ w h. opened_owes e x d s.job.number t w h.opens l) ws new_windows in
      omega (arith, asks_more e x d t b s)

  arrived_good : free_at s.job s.arrivals ≤ t → Good engines (arrived t b s)
  arrived_good free = record {
    sound = ok.sound;
    legal = (free, in_range, ok.legal);
    covered = λ e x d. omega (arith, wants e x d, asks_more e x d t b s);
    alive = all_map Alive (opened s.job.number t) (branch_of s.job b)
        (all_weaker (SoundTask engines s.job.deadline) (λ w. Alive (opened s.job.number t w))
        (λ w h. record { not_late = refl; some_left = λ _. h.some_work; no_more = omega arith }) (branch_of s.job b) new_windows);
    placed = all_map (Placed engines) (opened s.job.number t) (branch_of s.job b)
        (all_weaker (SoundTask engines s.job.deadline) (λ w. Placed engines (opened s.job.number t w)) (λ w h. h.placed) (branch_of s.job b) new_windows);
    over = all_map (Over (t + s.job.period)) (opened s.job.number t) (branch_of s.job b)
        (all_weaker (SoundTask engines s.job.deadline) (λ w. Over (t + s.job.period) (opened s.job.number t w)) (λ w h. omega (arith, h.closes, ok.sound.within_period)) (branch_of s.job b) new_windows);
  }

  arrived_timely : AllByRecursion (Timely t) ((arrived t b s).tasks)
  arrived_timely = all_map (Timely t) (opened s.job.number t) (branch_of s.job b)
      (all_weaker (SoundTask engines s.job.deadline) (λ w. Timely t (opened s.job.number t w)) (λ w h. lt-leb _ _ (omega (arith, h.opens))) (branch_of s.job b) new_windows)

module _ (engines t j b : ℕ) where
  pub granted_parts : (s : Slot) → granted t j b s ≡ true → (b < length s.job.branches) × (free_at s.job s.arrivals ≤ t)
  granted_parts s y =
      let (_, rest) = and_parts _ _ y in
      let (l, f) = and_parts _ _ rest in
      (ltb-true _ _ l, leb-true _ _ f)

  pub arrive_good : (s : Slot) → Good engines s → Good engines (arrive_at t j b s)
  arrive_good s ok = cond_both (granted t j b s) (arrived t b s) s (Good engines)
      (λ y. let (r, f) = granted_parts s y in arrived_good engines t b s ok r f) (λ _. ok)

  pub arrive_timely : (s : Slot) → Good engines s → AllByRecursion (Timely t) s.tasks → AllByRecursion (Timely t) ((arrive_at t j b s).tasks)
  arrive_timely s ok h = cond_both (granted t j b s) (arrived t b s) s (λ r. AllByRecursion (Timely t) r.tasks)
      (λ y. arrived_timely engines t b s ok ((granted_parts s y).0)) (λ _. h)

  pub arrive_work : (e x d : ℕ) → x ≤ t → (s : Slot) → Good engines s → owes e d (arrive_at t j b s) + asks e x d s ≤ owes e d s + asks e x d (arrive_at t j b s)
  arrive_work e x d l s ok = cond_both (granted t j b s) (arrived t b s) s (λ r. owes e d r + asks e x d s ≤ owes e d s + asks e x d r)
      (λ y. arrived_work engines t b s ok (granted_parts s y).0 e x d l) (λ _. omega arith)

  pub arrive_job : (s : Slot) → (arrive_at t j b s).job ≡ s.job
  arrive_job s = cond_both (granted t j b s) (arrived t b s) s (λ r. r.job ≡ s.job) (λ _. refl) (λ _. refl)

-- all open sub-tasks
pub tasks_each : (f : OpenTask → OpenTask) (slots : List Slot) → tasks_of (map (each f) slots) ≡ map f (tasks_of slots)
tasks_each f slots = map_flat (λ s. s.tasks) (each f) f (λ _. refl) slots

pub owes_flat : (e d : ℕ) (slots : List Slot) → sum_by (owes e d) slots ≡ sum_by (owed e d) (tasks_of slots)
owes_flat e d slots = sym (sum_flat (owed e d) (λ s. s.tasks) slots)

pub all_alive : (engines : ℕ) (slots : List Slot) → AllByRecursion (Good engines) slots → AllByRecursion Alive (tasks_of slots)
all_alive engines slots a = all_flat Alive (λ s. s.tasks) slots (all_weaker (Good engines) (λ s. AllByRecursion Alive s.tasks) (λ s g. g.alive) slots a)

pub all_placed : (engines : ℕ) (slots : List Slot) → AllByRecursion (Good engines) slots → AllByRecursion (Placed engines) (tasks_of slots)
all_placed engines slots a = all_flat (Placed engines) (λ s. s.tasks) slots (all_weaker (Good engines) (λ s. AllByRecursion (Placed engines) s.tasks) (λ s g. g.placed) slots a)

-- what is served and done changes phases only
pub each_good : (engines : ℕ) (choice : ℕ → Option Key) (on done : ℕ → Bool) (s : Slot) → Good engines s → Good engines (each (advance choice on done) s)
each_good engines choice on done s g = record {
  sound = g.sound;
  legal = g.legal;
  covered = λ e x d. omega (arith, sum_map (wanted e x d) (advance choice on done) s.tasks, g.covered e x d);
  alive = all_map Alive (advance choice on done) s.tasks
      (all_weaker Alive (λ p. Alive (advance choice on done p))
      (λ p h. serve_live p.task.ticks (choice p.task.engine) (on p.task.engine) (done p.task.engine) p h) s.tasks g.alive);
  placed = all_map (Placed engines) (advance choice on done) s.tasks g.placed;
  over = all_map (Over (free_at s.job s.arrivals)) (advance choice on done) s.tasks g.over;
}

-- where nothing is overdue, nothing expires
pub expired_same : (t : ℕ) (p : OpenTask) → Timely t p → expired t p ≡ p
expired_same t p h = ap (λ b. in_phase p (cond b late p.phase)) h

pub slot_same : (t : ℕ) (s : Slot) → AllByRecursion (Timely t) s.tasks → each (expired t) s ≡ s
slot_same t s a = ap (λ ps. record { job = s.job; arrivals = s.arrivals; tasks = ps })
    (map_same (expired t) s.tasks (all_weaker (Timely t) (λ p. expired t p ≡ p) (expired_same t) s.tasks a))

pub expire_same : (st : State) → AllByRecursion (Timely st.clock) (tasks_of st.slots) → expire st ≡ st
expire_same st a =
    let t = st.clock in
    let p = map_same (each (expired t)) st.slots (all_weaker (λ s. AllByRecursion (Timely t) s.tasks) (λ s. each (expired t) s ≡ s) (slot_same t) st.slots
    (all_unflat (Timely t) (λ s. s.tasks) st.slots a)) in
    let q : st.lates + count_by (overdue t) (tasks_of st.slots) ≡ st.lates = omega (arith, count_none (overdue t) (tasks_of st.slots) a) in
    λ i. record { clock = t; slots = p i; lates = q i }
