-- On a board whose residents are placed nothing is late, and what is ready waits for nothing.
use Rattle.std.proofs.Common.{◌≡◌, ℕ, zero, suc, ◌+◌, ◌≤◌, Bool, true, false, List, [], ◌∷◌, ◌++◌, map, length, slice_get, get_or, take, Some, Option, refl, sym, ap, subst, inl, inr, arith}
use Rattle.std.specs.List.{AllByRecursion}
use Rattle.std.proofs.lemmas.Option.{none-some, same_Some}
use Rattle.board.specs.Placing.{Rules}
use Rattle.computed.proofs.Asked.{job_sound}
use Rattle.plan.specs.declared.part.Task.{Task as Planned}
use Rattle.plan.specs.declared.plan.Plan.{Plan}
use Rattle.plan.specs.Part.{tasks_where}
use Rattle.plan.specs.Plan.{nodes_of, reached_rows}
use Rattle.plan.proofs.Formed.{all_below}
use Rattle.resident.specs.declared.resident.Resident.{Resident}
use Rattle.runs.specs.Events.{advance, arrive, arrive_at, arrived, choices, Event, expired, granted, opened, play, run, start, step, tick}
use Rattle.runs.specs.Job.{AllFit, branch_of, SubTask}
use Rattle.runs.specs.Next.{Key, ready}
use Rattle.runs.specs.Runs.{masks, OnTime, Supplied}
use Rattle.runs.specs.State.{each, finished, OpenTask, Slot, State, tasks_of}
use Rattle.runs.proofs.LateWhenOverloaded.{soon}
use Rattle.runs.proofs.Lists.{all_from_mem, all_map, all_mem, all_weaker, cond_both, Mem}
use Rattle.runs.proofs.NeverLate.{never_late}
use Rattle.seated.specs.Jobs.{job_of, jobs_of, reached_by, seat_of, sub_task}
use Rattle.seated.specs.Lasting.{Placed, WellSeated}
use Rattle.seated.specs.Placement.{LawfulRules}
use Rattle.seated.specs.Waits.{InOrder}
use Rattle.seated.proofs.Asking.{asked_same}
use Rattle.seated.proofs.Lists.{all_filter, mem_at}
use Rattle.seated.proofs.Patterns.{member_where}
use Rattle.seated.proofs.Seats.{seats_place}
use Rattle.seated.proofs.Sounding.{jobs_sound, sound_at}
use Rattle.slack.specs.declared.rule.Position.{Position}
use Rattle.slack.specs.Rule.{Lawful}
use Rattle.task.specs.Node.{is_sub_task}
use Rattle.window.specs.Windows.{deadline_of, offset_of, WindowsHold}
use Rattle.window.proofs.Holding.{windows_hold}

-- what an arrival opens has its windows from the time of the arrival on
record Stands (r : Resident) (time : ℕ) (p : OpenTask) : Type 0 where
  pub release : p.task.release ≡ time + offset_of r.plan.windows p.task.node
  pub due : p.task.due ≡ time + deadline_of r.plan.windows p.task.node

-- a slot of the resident: all that is open in it was opened at one time
record Own (r : Resident) (s : Slot) : Type 0 where
  pub job_is : s.job ≡ job_of r
  pub time : ℕ
  pub stands : AllByRecursion (Stands r time) s.tasks

abbrev Beside : List Resident → List Slot → Type 0
Beside [] [] = Unit {0}
Beside [] (s ∷ slots) = ⊥
Beside (r ∷ rs) [] = ⊥
Beside (r ∷ rs) (s ∷ slots) = Own r s × Beside rs slots

beside_map : (f : Slot → Slot) → ((r : Resident) (s : Slot) → Own r s → Own r (f s)) → (rs : List Resident) (slots : List Slot) → Beside rs slots → Beside rs (map f slots)
beside_map f h [] [] b = tt
beside_map f h [] (s ∷ slots) b = b
beside_map f h (r ∷ rs) [] b = b
beside_map f h (r ∷ rs) (s ∷ slots) b = (h r s b.0, beside_map f h rs slots b.1)

beside_at : (rs : List Resident) (slots : List Slot) → Beside rs slots → (i : ℕ) (r : Resident) (s : Slot) → slice_get rs i ≡ Some r → slice_get slots i ≡ Some s → Own r s
beside_at [] slots b i r s at there = absurd (none-some r at)
beside_at (q ∷ rs) [] b i r s at there = absurd b
beside_at (q ∷ rs) (t ∷ slots) b i r s at there = go i at there (beside_at rs slots b.1)
  where
    go : (i : ℕ) → slice_get (q ∷ rs) i ≡ Some r → slice_get (t ∷ slots) i ≡ Some s
        → ((k : ℕ) (x : Resident) (y : Slot) → slice_get rs k ≡ Some x → slice_get slots k ≡ Some y → Own x y) → Own r s
    go zero e d rec = subst (λ x. Own x s) (same_Some q r e) (subst (Own q) (same_Some t s d) b.0)
    go (suc k) e d rec = rec k r s e d

beside_start : (rs : List Resident) → Beside rs (start (jobs_of rs)).slots
beside_start [] = tt
beside_start (r ∷ rs) = (record { job_is = refl; time = 0; stands = tt }, beside_start rs)

-- the sub-tasks of a branch have the windows of the plan
record Windowed (r : Resident) (w : SubTask) : Type 0 where
  pub opens : w.offset ≡ offset_of r.plan.windows w.node
  pub closes : w.deadline ≡ deadline_of r.plan.windows w.node

all_get : {X : Type 0} (P : X → Type 0) (xs : List X) (k : ℕ) (d : X) → P d → AllByRecursion P xs → P (get_or xs k d)
all_get P [] k d p a = p
all_get P (x ∷ xs) zero d p a = a.0
all_get P (x ∷ xs) (suc k) d p a = all_get P xs k d p a.1

branches_windowed : (r : Resident) → AllByRecursion (AllByRecursion (Windowed r)) (job_of r).branches
branches_windowed r =
    let p : Plan = r.plan in
    let f = seat_of r in
    let all : AllByRecursion (λ (x : Planned). Windowed r (sub_task p f x)) (tasks_where p is_sub_task)
    = all_below (λ (x : Planned). Windowed r (sub_task p f x)) p (member_where p is_sub_task) (length (nodes_of p)) (λ v low _. record { opens = refl; closes = refl }) in
    all_map (AllByRecursion (Windowed r)) (λ (row : List Bool). map (sub_task p f) (reached_by p row)) (reached_rows p)
    (all_from_mem _ (reached_rows p) (λ row _. all_map (Windowed r) (sub_task p f) (reached_by p row)
    (all_filter (λ (x : Planned). Windowed r (sub_task p f x)) (λ (x : Planned). get_or row x.node false) (tasks_where p is_sub_task) all)))

own_arrive : (t j b : ℕ) (r : Resident) (s : Slot) → Own r s → Own r (arrive_at t j b s)
own_arrive t j b r s own = cond_both (granted t j b s) (arrived t b s) s (Own r)
    (λ _. record {
      job_is = own.job_is;
      time = t;
      stands = all_map (Stands r t) (opened s.job.number t) (branch_of s.job b)
          (all_weaker (Windowed r) (λ w. Stands r t (opened s.job.number t w)) (λ w h. record { release = ap (λ o. t + o) h.opens; due = ap (λ o. t + o) h.closes })
          (branch_of s.job b) (subst (λ k. AllByRecursion (Windowed r) (branch_of k b)) (sym own.job_is) (all_get (AllByRecursion (Windowed r)) (job_of r).branches b [] tt (branches_windowed r))));
    })
    (λ _. own)

own_advance : (choice : ℕ → Option Key) (on done : ℕ → Bool) (r : Resident) (s : Slot) → Own r s → Own r (each (advance choice on done) s)
own_advance choice on done r s own = record {
  job_is = own.job_is;
  time = own.time;
  stands = all_map (Stands r own.time) (advance choice on done) s.tasks
      (all_weaker (Stands r own.time) (λ p. Stands r own.time (advance choice on done p)) (λ p h. record { release = h.release; due = h.due }) s.tasks own.stands);
}

own_expired : (t : ℕ) (r : Resident) (s : Slot) → Own r s → Own r (each (expired t) s)
own_expired t r s own = record {
  job_is = own.job_is;
  time = own.time;
  stands = all_map (Stands r own.time) (expired t) s.tasks
      (all_weaker (Stands r own.time) (λ p. Stands r own.time (expired t p)) (λ p h. record { release = h.release; due = h.due }) s.tasks own.stands);
}

beside_play : (rs : List Resident) (st : State) (es : List Event) → Beside rs st.slots → Beside rs (play st es).slots
beside_play rs st [] b = b
beside_play rs st (arrive j k ∷ es) b = beside_play rs (step st (arrive j k)) es (beside_map (arrive_at st.clock j k) (own_arrive st.clock j k) rs st.slots b)
beside_play rs st (tick on done ∷ es) b =
    let choice : ℕ → Option Key = choices st.clock st.slots in
    beside_play rs (step st (tick on done)) es
    (beside_map (each (expired (st.clock + 1))) (own_expired (st.clock + 1)) rs (run st.clock on done st.slots)
    (beside_map (each (advance choice on done)) (own_advance choice on done) rs st.slots b))

mem_left : {X : Type 0} (xs ys : List X) (x : X) → Mem x xs → Mem x (xs ++ ys)
mem_left [] ys x m = absurd m
mem_left (z ∷ xs) ys x m = elim m [ inl e ↦ inl e | inr n ↦ inr (mem_left xs ys x n) ]

mem_right : {X : Type 0} (xs ys : List X) (x : X) → Mem x ys → Mem x (xs ++ ys)
mem_right [] ys x m = m
mem_right (z ∷ xs) ys x m = inr (mem_right xs ys x m)

mem_slot : (slots : List Slot) (s : Slot) (p : OpenTask) → Mem s slots → Mem p s.tasks → Mem p (tasks_of slots)
mem_slot [] s p m n = absurd m
mem_slot (t ∷ slots) s p m n = elim m [
  | inl e ↦ mem_left t.tasks (tasks_of slots) p (rw e n)
  | inr k ↦ mem_right t.tasks (tasks_of slots) p (mem_slot slots s p k n)
]

-- along a path of kept edges a window opens no sooner than the one before it closes
windows_of : (tags : List ℕ) (local : Position → ℕ) → Lawful local → (r : Resident) → WellSeated tags local r → WindowsHold (nodes_of r.plan) r.plan.choice r.plan.job.deadline r.plan.windows
windows_of tags local lawful r well =
    let p : Plan = r.plan in
    windows_hold (nodes_of p) (job_sound p.job) p.choice p.job.deadline well.planned.lengths well.planned.measured well.possible
    (soon (length tags) (job_of r) (sound_at p (seat_of r) tags (seats_place r tags well.seats)))
    local lawful p.windows well.planned.windows

module _ (rules : Rules) (lawful : LawfulRules rules) (rs : List Resident) (placed : Placed rules rs) where
  in_order : (events : List Event) → OnTime (play (start (jobs_of rs)) events) → InOrder rs (play (start (jobs_of rs)) events)
  in_order events timely i e r s at there k l q o q_at o_at is_ready waits =
      let st = play (start (jobs_of rs)) events in
      let own = beside_at rs st.slots (beside_play rs (start (jobs_of rs)) events (beside_start rs)) i r s at there in
      let hold = windows_of rules.tags rules.local lawful.slack r (all_mem (WellSeated rules.tags rules.local) rs r (mem_at rs i r at) placed.each) in
      let q_mem = mem_at s.tasks k q q_at in
      let o_mem = mem_at s.tasks l o o_at in
      let q_stands = all_mem (Stands r own.time) s.tasks q q_mem own.stands in
      let o_stands = all_mem (Stands r own.time) s.tasks o o_mem own.stands in
      let low = waits.0 in
      let (sum, path) = waits.1 in
      let apart = hold.ordered o.task.node q.task.node sum path low in
      let s_mem = mem_at st.slots i s there in
      all_mem (λ p. p.task.due ≤ q.task.release → p.phase ≡ finished) (tasks_of st.slots) o (mem_slot st.slots s o s_mem o_mem)
      (all_mem (λ x. ready e st.clock x ≡ true → AllByRecursion (λ p. p.task.due ≤ x.task.release → p.phase ≡ finished) (tasks_of st.slots)) (tasks_of st.slots) q
      (mem_slot st.slots s q s_mem q_mem) (timely.in_order e) is_ready)
      (omega (arith, q_stands.release, o_stands.due))

  -- all engines fit what the jobs ask
  pub jobs_fit : AllFit (length rules.tags) rules.supply (jobs_of rs)
  jobs_fit e known n = omega (arith, asked_same rules.tags rules.local rs placed.each e n, placed.fit e n)

  pub on_time_and_in_order : (events : List Event) → Supplied (length rules.tags) rules.supply (masks events) → (k : ℕ)
      → OnTime (play (start (jobs_of rs)) (take k events)) × InOrder rs (play (start (jobs_of rs)) (take k events))
  on_time_and_in_order events supplied k =
      let timely = never_late (length rules.tags) rules.supply (jobs_of rs) events (jobs_sound rules.tags rules.local rs placed.each) jobs_fit supplied k in
      (timely, in_order (take k events) timely)
