-- The theorems of a board's run.
--   NextIsFirst           what an engine runs next is the first of its sub-tasks that are ready: by due, then by job, then by node; and nothing only where none is ready
--   NeverLate             where all engines fit and are served at least their supply, everything is on time after every event, whatever arrives and whatever is reported
--   LateWhenOverloaded    where the jobs ask more of some engine than it supplies, there is a run without reports in which something is late
--   FitsExactly           so all engines fit exactly when no run is ever late
use Rattle.std.specs.Prelude.{◌≡◌, ℕ, ◌<◌, ◌≤◌, ◌↔◌, false, List, take, MatchOption}
use Rattle.std.specs.List.{AllByRecursion}
use Rattle.runs.specs.Events.{Event, play, start}
use Rattle.runs.specs.Job.{AllFit, asked, Distinct, Job, Sound}
use Rattle.runs.specs.Next.{IsNext, next, ready}
use Rattle.runs.specs.Runs.{Lawful, masks, OnTime, Quiet, Run, Supplied}
use Rattle.runs.specs.State.{OpenTask}

abbrev pub NextIsFirst : Type 0
NextIsFirst = (e t : ℕ) (ps : List OpenTask) → MatchOption (next e t ps) (AllByRecursion (λ p. ready e t p ≡ false) ps) (IsNext e t ps)

abbrev pub NeverLate : Type 0
NeverLate =
    (engines : ℕ) (supply : ℕ → ℕ → ℕ) (jobs : List Job) (events : List Event)
    → AllByRecursion (Sound engines) jobs → AllFit engines supply jobs → Supplied engines supply (masks events)
    → (k : ℕ) → OnTime (play (start jobs) (take k events))

abbrev pub LateWhenOverloaded : Type 0
LateWhenOverloaded =
    (engines : ℕ) (supply : ℕ → ℕ → ℕ) (jobs : List Job)
    → ((e : ℕ) → e < engines → Lawful (supply e)) → AllByRecursion (Sound engines) jobs → Distinct jobs
    → (e n : ℕ) → e < engines → supply e n < asked e jobs n
    → (events : List Event) × Run engines supply jobs events × AllByRecursion Quiet events × (1 ≤ (play (start jobs) events).lates)

abbrev pub FitsExactly : Type 0
FitsExactly =
    (engines : ℕ) (supply : ℕ → ℕ → ℕ) (jobs : List Job)
    → ((e : ℕ) → e < engines → Lawful (supply e)) → AllByRecursion (Sound engines) jobs → Distinct jobs
    → AllFit engines supply jobs ↔ ((events : List Event) → Run engines supply jobs events → (play (start jobs) events).lates ≡ 0)
