-- Runs of a board, and when everything in one is on time.
--   masks events                   the served masks of the ticks, in order
--   served_ticks e ms              in how many of the ticks the engine e is served
--   Supplied engines supply ms     in every n ticks in a row each engine is served at least its supply
--   Granted engines st event       an arrival is granted by a slot; a tick that names no engine beyond those that there are is, as long as the clock has not come to its end
--   AllGranted engines st events   each event is granted, where it comes
--   Quiet event                    no engine reports that its sub-task is done
--   Run engines supply jobs events    from the start of these jobs all events are granted, and every engine is served at least its supply
--   OnTime st                      nothing is late, and nothing waits or is replaced that is not finished
--   Lawful s                       what a supply keeps: none in no ticks, in one more tick the same or one more, and in two stretches no more than in both in a row
use Rattle.std.specs.Prelude.{◌≡◌, ℕ, ◌+◌, ◌<◌, ◌≤◌, Bool, true, false, List, [], ◌∷◌, length, take, drop, count_by}
use Rattle.std.specs.List.{AllByRecursion, list_any}
use Rattle.runs.specs.Events.{arrive, Event, free_at, granted, start, step, tick}
use Rattle.runs.specs.Job.{Job}
use Rattle.runs.specs.Next.{ready}
use Rattle.runs.specs.State.{finished, is_late, State, tasks_of}

abbrev pub masks : List Event → List (ℕ → Bool)
masks [] = []
masks (arrive j b ∷ es) = masks es
masks (tick served done ∷ es) = served ∷ masks es

abbrev pub served_ticks : ℕ → List (ℕ → Bool) → ℕ
served_ticks e ms = count_by (λ m. m e) ms

abbrev pub Supplied : ℕ → (ℕ → ℕ → ℕ) → List (ℕ → Bool) → Type 0
Supplied engines supply ms = (e x n : ℕ) → e < engines → x + n ≤ length ms → supply e n ≤ served_ticks e (take n (drop x ms))

abbrev pub Granted : ℕ → State → Event → Type 0
Granted engines st (arrive j b) = list_any (granted st.clock j b) st.slots ≡ true
Granted engines st (tick served done) = (st.clock < 2000000000) × ((e : ℕ) → engines ≤ e → (served e ≡ false) × (done e ≡ false))

abbrev pub AllGranted : ℕ → State → List Event → Type 0
AllGranted engines st [] = Unit {0}
AllGranted engines st (e ∷ es) = Granted engines st e × AllGranted engines (step st e) es

abbrev pub Quiet : Event → Type 0
Quiet (arrive j b) = Unit {0}
Quiet (tick served done) = (e : ℕ) → done e ≡ false

pub record Run (engines : ℕ) (supply : ℕ → ℕ → ℕ) (jobs : List Job) (events : List Event) : Type 0 where
  pub all_granted : AllGranted engines (start jobs) events
  pub supplied : Supplied engines supply (masks events)

pub record OnTime (st : State) : Type 0 where
  pub none_counted : st.lates ≡ 0
  pub none_late : AllByRecursion (λ p. is_late p.phase ≡ false) (tasks_of st.slots)
  pub due_finished : AllByRecursion (λ p. p.task.due ≤ st.clock → p.phase ≡ finished) (tasks_of st.slots)
  -- what is ready waits for nothing that is still open
  pub in_order : (e : ℕ)
      → AllByRecursion (λ q. ready e st.clock q ≡ true → AllByRecursion (λ p. p.task.due ≤ q.task.release → p.phase ≡ finished) (tasks_of st.slots)) (tasks_of st.slots)
  -- an arrival that is granted replaces finished sub-tasks only
  pub free_when_finished : AllByRecursion (λ s. free_at s.job s.arrivals ≤ st.clock → AllByRecursion (λ p. p.phase ≡ finished) s.tasks) st.slots

pub record Lawful (s : ℕ → ℕ) : Type 0 where
  pub none : s 0 ≡ 0
  pub grows : (n : ℕ) → s n ≤ s (n + 1)
  pub by_one : (n : ℕ) → s (n + 1) ≤ s n + 1
  pub joins : (a b : ℕ) → s a + s b ≤ s (a + b)
