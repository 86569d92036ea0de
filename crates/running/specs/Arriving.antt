-- Arrivals on a board that runs.
--   free_from period o             from when on a job with the period may arrive again, if it arrived last at o
--   Opens rs st n b ws             an arrival of the job with the number n, one of the residents rs, and of the branch b is granted in the state st of the table, and opens ws
--   slot_of n ss                   the first of the slots ss that is of the job with the number n, if there is one
--   ArriveRefused st n b f         in the state st the first question that an arrival of the job with the number n and of the branch b fails is that of f
use Rattle.std.specs.Prelude.{◌≡◌, ℕ, ◌+◌, ◌<◌, ◌≤◌, ◌==◌, List, length, map, Option, Some, None}
use Rattle.std.specs.List.{find}
use Rattle.board.specs.declared.refusal.Refusal.{Refusal}
use Rattle.board.specs.declared.refusal.Refusal.TheVariants.{Fault, NumberTaken, BoardFull, NoChoice, NoPlacement, NotResident, NoBranch, TooSoon, NoEngine, LastClock, ShortBuffer}
use Rattle.board.specs.Residents.{resident_of}
use Rattle.dispatch.specs.declared.sub_task.SubTask.{SubTask}
use Rattle.dispatch.specs.Opening.{sub_task}
use Rattle.dispatch.specs.Table.{arrived_last}
use Rattle.resident.specs.declared.resident.Resident.{Resident}
use Rattle.runs.specs.Events.{free_at}
use Rattle.runs.specs.Job.{branch_of}
use Rattle.runs.specs.State.{Slot, State}
use Rattle.seated.specs.Jobs.{job_of}

abbrev pub free_from : ℕ → Option ℕ → ℕ
free_from period None = 0
free_from period (Some t) = t + period

pub record Opens (rs : List Resident) (st : State) (n b : ℕ) (ws : List SubTask) : Type 0 where
  pub job : Resident
  pub found : resident_of rs n ≡ Some job
  pub lies : b < length (job_of job).branches
  pub free : free_from job.plan.job.period (arrived_last n st.slots) ≤ st.clock
  pub tasks : map sub_task ws ≡ branch_of (job_of job) b

abbrev pub slot_of : ℕ → List Slot → Option Slot
slot_of n ss = find (λ (s : Slot). s.job.number == n) ss

abbrev pub ArriveRefused : State → ℕ → ℕ → Refusal → Type 0
ArriveRefused st n b (Fault f) = ⊥
ArriveRefused st n b NumberTaken = ⊥
ArriveRefused st n b BoardFull = ⊥
ArriveRefused st n b NoChoice = ⊥
ArriveRefused st n b NoPlacement = ⊥
ArriveRefused st n b NotResident = slot_of n st.slots ≡ None
ArriveRefused st n b NoBranch = (s : Slot) × (slot_of n st.slots ≡ Some s) × (length s.job.branches ≤ b)
ArriveRefused st n b TooSoon = (s : Slot) × (slot_of n st.slots ≡ Some s) × (b < length s.job.branches) × (st.clock < free_at s.job s.arrivals)
ArriveRefused st n b NoEngine = ⊥
ArriveRefused st n b LastClock = ⊥
ArriveRefused st n b ShortBuffer = ⊥
