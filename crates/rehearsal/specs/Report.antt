-- What is printed of a history.
--   is_next n v r            what ran on an engine is the sub-task v of the job n
--   arrived_by n call a      the call is an arrival of the job n, and was granted
--   ran_by n v a             the answer is that of a tick, and the sub-task v of the job n ran in it
--   late_by a                how many sub-tasks became late in the tick, if the answer is that of one
--   arrivals h n             how many arrivals of the job n were granted in the history h
--   ticks_of h n v           in how many ticks the sub-task v of the job n ran
--   lates h                  how many sub-tasks became late
--   ran_line h n v           the line of the sub-task v, if it ran
--   job_report h n           the lines of the job n, which was loaded
--   load_report h call a     what is printed of a call and its answer: something of each load
--   report h                 what is printed of the history h
use Rattle.std.specs.Prelude.{ℕ, Bool, true, false, ◌&&◌, if◌then◌else◌, ◌==◌, List, [], ◌∷◌, ◌++◌, codes, count_by, decimal, sum_by, Some, None, Option}
use Rattle.std.specs.List.{flat_map, list_any}
use Rattle.dispatch.specs.declared.candidate.Next.{Next}
use Rattle.life.specs.declared.call.Answer.{Answer}
use Rattle.life.specs.declared.call.Answer.TheVariants.{Done, Loaded, NotTaken, Refused, Ticked}
use Rattle.life.specs.declared.call.Call.{Call}
use Rattle.life.specs.declared.call.Call.TheVariants.{Arrive, Load, Start, Stop, Tick, Unload}
use Rattle.life.specs.declared.call.Entry.{Entry}
use Rattle.listing.specs.Answer.{refused_text}
use Rattle.rehearsal.specs.Below.{below}

abbrev pub is_next : ℕ → ℕ → Option Next → Bool
is_next n v None = false
is_next n v (Some next) = next.job == n && next.node == v

abbrev pub is_done : Answer → Bool
is_done Done = true
is_done (Loaded n) = false
is_done (Ticked ran late) = false
is_done (Refused f) = false
is_done NotTaken = false

abbrev pub arrived_by : ℕ → Call → Answer → Bool
arrived_by n (Arrive m b) a = m == n && is_done a
arrived_by n (Load text) a = false
arrived_by n (Unload m) a = false
arrived_by n Start a = false
arrived_by n (Tick served done) a = false
arrived_by n Stop a = false

abbrev pub ran_by : ℕ → ℕ → Answer → Bool
ran_by n v (Ticked ran late) = list_any (is_next n v) ran
ran_by n v (Loaded m) = false
ran_by n v Done = false
ran_by n v (Refused f) = false
ran_by n v NotTaken = false

abbrev pub late_by : Answer → ℕ
late_by (Ticked ran late) = late
late_by (Loaded n) = 0
late_by Done = 0
late_by (Refused f) = 0
late_by NotTaken = 0

abbrev pub arrivals : List Entry → ℕ → ℕ
arrivals h n = count_by (λ e. arrived_by n e.call e.answer) h

abbrev pub ticks_of : List Entry → ℕ → ℕ → ℕ
ticks_of h n v = count_by (λ e. ran_by n v e.answer) h

abbrev pub lates : List Entry → ℕ
lates h = sum_by (λ e. late_by e.answer) h

abbrev pub ran_line : List Entry → ℕ → ℕ → List ℕ
ran_line h n v = if ticks_of h n v == 0 then [] else codes "ran=" ++ (decimal v ++ 44 ∷ (decimal (ticks_of h n v) ++ codes "\n"))

abbrev pub job_report : List Entry → ℕ → List ℕ
job_report h n =
    codes "answer=0\njob=" ++ (decimal n ++ (codes "\narrivals=" ++ (decimal (arrivals h n) ++ codes "\n")))
    ++ flat_map (ran_line h n) (below 24)

abbrev pub loaded_report : List Entry → Answer → List ℕ
loaded_report h (Loaded n) = job_report h n
loaded_report h (Refused f) = refused_text f
loaded_report h Done = []
loaded_report h (Ticked ran late) = []
loaded_report h NotTaken = []

abbrev pub load_report : List Entry → Call → Answer → List ℕ
load_report h (Load text) a = loaded_report h a
load_report h (Unload n) a = []
load_report h Start a = []
load_report h (Arrive n b) a = []
load_report h (Tick served done) a = []
load_report h Stop a = []

abbrev pub report : List Entry → List ℕ
report h = flat_map (λ e. load_report h e.call e.answer) h ++ (codes "late=" ++ (decimal (lates h) ++ codes "\n"))
