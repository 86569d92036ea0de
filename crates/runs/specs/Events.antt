-- What an arrival and a tick do.
--   Event                    a job arrives and takes a branch; or a tick passes, with two masks over the engines: whether each is served, and whether it reports that its sub-task is done
--   free_at j as             from when on the job j may arrive again
--   granted t j b s          whether the slot s takes an arrival of the job with the number j and of the branch b at the clock t
--   opened j t s             the sub-task s of an arrival at t of the job with the number j, with all of its ticks pending
--   arrived t b s            the slot s after an arrival at t of the branch b: the sub-tasks of this branch take the place of the last ones
--   arrive_at t j b s        the same, if it is granted
--   worked done f            one tick of work: the last one finishes, and so does a report of done
--   same k t                 whether k is the key of the sub-task t
--   serve o served done p    the phase of p after a tick, if its engine runs o, is served, and reports
--   advance next served done p    p after a tick, whatever engine it is on
--   choices t slots e        what the engine e runs next
--   run t served done slots  every engine works on the first of its sub-tasks that are ready at t
--   overdue t p              whether p is pending and due by t
--   expired t p              then it is late
--   expire st                all that is overdue becomes late, and is counted
--   step st event, play st events    the state after an event, and after all of a list
--   start jobs               a board that begins to run, before any arrival
use Rattle.std.specs.Prelude.{ℕ, ◌+◌, ◌-◌, Bool, cond, ◌&&◌, ◌||◌, ◌==◌, nat_le, nat_lt, List, [], ◌∷◌, length, map, count_by, Option, Some, None}
use Rattle.runs.specs.Job.{branch_of, Job, SubTask}
use Rattle.runs.specs.Next.{Key, next}
use Rattle.runs.specs.State.{each, finished, in_phase, is_pending, late, OpenTask, pending, Phase, Slot, State, Task, tasks_of}
use Rattle.theory.specs.Pattern.{Arrival}

pub data Event : Type 0 where
  arrive : (job branch : ℕ) → Event
  tick : (served done : ℕ → Bool) → Event

abbrev pub free_at : Job → List Arrival → ℕ
free_at j [] = 0
free_at j (a ∷ older) = a.time + j.period

abbrev pub granted : ℕ → ℕ → ℕ → Slot → Bool
granted t j b s = (s.job.number == j) && (nat_lt b (length s.job.branches) && nat_le (free_at s.job s.arrivals) t)

abbrev pub opened : ℕ → ℕ → SubTask → OpenTask
opened j t s = record {
  task = record { job = j; node = s.node; engine = s.engine; release = t + s.offset; due = t + s.deadline; ticks = s.ticks };
  phase = pending s.ticks;
}

abbrev pub arrived : ℕ → ℕ → Slot → Slot
arrived t b s = record {
  job = s.job;
  arrivals = record { time = t; branch = b } ∷ s.arrivals;
  tasks = map (opened s.job.number t) (branch_of s.job b);
}

abbrev pub arrive_at : ℕ → ℕ → ℕ → Slot → Slot
arrive_at t j b s = cond (granted t j b s) (arrived t b s) s

abbrev pub worked : Bool → Phase → Phase
worked done (pending n) = cond (done || nat_le n 1) finished (pending (n - 1))
worked done finished = finished
worked done late = late

abbrev pub same : Key → Task → Bool
same k t = (k.job == t.job) && (k.node == t.node)

abbrev pub serve : Option Key → Bool → Bool → OpenTask → Phase
serve None served done p = p.phase
serve (Some k) served done p = cond (served && same k p.task) (worked done p.phase) p.phase

abbrev pub advance : (ℕ → Option Key) → (ℕ → Bool) → (ℕ → Bool) → OpenTask → OpenTask
advance choice served done p = in_phase p (serve (choice p.task.engine) (served p.task.engine) (done p.task.engine) p)

abbrev pub choices : ℕ → List Slot → ℕ → Option Key
choices t slots e = next e t (tasks_of slots)

abbrev pub run : ℕ → (ℕ → Bool) → (ℕ → Bool) → List Slot → List Slot
run t served done slots = map (each (advance (choices t slots) served done)) slots

abbrev pub overdue : ℕ → OpenTask → Bool
overdue t p = is_pending p.phase && nat_le p.task.due t

abbrev pub expired : ℕ → OpenTask → OpenTask
expired t p = in_phase p (cond (overdue t p) late p.phase)

abbrev pub expire : State → State
expire st = record {
  clock = st.clock;
  slots = map (each (expired st.clock)) st.slots;
  lates = st.lates + count_by (overdue st.clock) (tasks_of st.slots);
}

abbrev pub step : State → Event → State
step st (arrive j b) = record { clock = st.clock; slots = map (arrive_at st.clock j b) st.slots; lates = st.lates }
step st (tick served done) = expire (record { clock = st.clock + 1; slots = run st.clock served done st.slots; lates = st.lates })

abbrev pub play : State → List Event → State
play st [] = st
play st (e ∷ es) = play (step st e) es

abbrev pub start : List Job → State
start jobs = record { clock = 0; slots = map (λ j. record { job = j; arrivals = []; tasks = [] }) jobs; lates = 0 }
