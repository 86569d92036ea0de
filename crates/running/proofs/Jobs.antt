-- What a board that runs keeps, by its jobs and its table.
use Rattle.std.proofs.Common.{◌≡◌, ℕ, ◌+◌, Bool, List, [], ◌∷◌, ◌++◌, map, length, Option, Some, None, OnSome, IfNone, refl, sym, ap, ◌∙◌, arith}
use Rattle.std.specs.Prelude.{count_by}
use Rattle.dispatch.specs.declared.table.Table.{Table}
use Rattle.dispatch.specs.Table.{numbered, state_of}
use Rattle.resident.specs.declared.resident.Resident.{Resident}
use Rattle.resident.specs.Resident.{number_of}
use Rattle.running.specs.Numbers.{numbers_in}
use Rattle.running.specs.View.{of_jobs, with_job, with_jobs}
use Rattle.runs.specs.Events.{advance, expired, overdue, run, start, step, tick}
use Rattle.runs.specs.Job.{Job}
use Rattle.runs.specs.Next.{next}
use Rattle.runs.specs.State.{each, OpenTask, Slot, State, tasks_of}
use Rattle.seated.specs.Jobs.{job_of, jobs_of}

-- a slot for each job has the same open sub-tasks
pub tasks_same : (js : List Job) (ss : List Slot) → length js ≡ length ss → tasks_of (with_jobs js ss) ≡ tasks_of ss
tasks_same [] [] many = refl
tasks_same [] (s ∷ ss) many = absurd (omega arith)
tasks_same (j ∷ js) [] many = absurd (omega arith)
tasks_same (j ∷ js) (s ∷ ss) many = ap (λ l. s.tasks ++ l) (tasks_same js ss (omega arith))

-- what is done to each open sub-task does not touch the jobs
each_same : (f : OpenTask → OpenTask) (js : List Job) (ss : List Slot) → with_jobs js (map (each f) ss) ≡ map (each f) (with_jobs js ss)
each_same f [] ss = refl
each_same f (j ∷ js) [] = refl
each_same f (j ∷ js) (s ∷ ss) = ap (λ l. each f (with_job j s) ∷ l) (each_same f js ss)

pub ticks_same : (js : List Job) (st : State) (served done : ℕ → Bool) → length js ≡ length st.slots → of_jobs js (step st (tick served done)) ≡ step (of_jobs js st) (tick served done)
ticks_same js st served done many =
    let t = st.clock in
    let same : tasks_of (with_jobs js st.slots) ≡ tasks_of st.slots = tasks_same js st.slots many in
    let work : List OpenTask → OpenTask → OpenTask = λ ps. advance (λ e. next e t ps) served done in
    let was = run t served done st.slots in
    let ran : with_jobs js was ≡ run t served done (with_jobs js st.slots) =
    each_same (work (tasks_of st.slots)) js st.slots ∙ ap (λ ps. map (each (work ps)) (with_jobs js st.slots)) (sym same) in
    let slots : with_jobs js (map (each (expired (t + 1))) was) ≡ map (each (expired (t + 1))) (run t served done (with_jobs js st.slots)) =
    each_same (expired (t + 1)) js was ∙ ap (map (each (expired (t + 1)))) ran in
    let late : count_by (overdue (t + 1)) (tasks_of was) ≡ count_by (overdue (t + 1)) (tasks_of (run t served done (with_jobs js st.slots))) =
    ap (count_by (overdue (t + 1))) (sym (tasks_same js was (many ∙ sym (length_each st.slots))) ∙ ap tasks_of ran) in
    λ i. record { clock = t + 1; slots = slots i; lates = st.lates + late i }
  where
    length_each : (ss : List Slot) → length (map (each (advance (λ e. next e st.clock (tasks_of st.slots)) served done)) ss) ≡ length ss
    length_each [] = refl
    length_each (s ∷ ss) = let rec = length_each ss in omega arith

each_numbers : (f : OpenTask → OpenTask) (ss : List Slot) → map (λ (s : Slot). s.job.number) (map (each f) ss) ≡ map (λ (s : Slot). s.job.number) ss
each_numbers f [] = refl
each_numbers f (s ∷ ss) = ap (λ l. s.job.number ∷ l) (each_numbers f ss)

pub tick_numbers : (st : State) (served done : ℕ → Bool) → numbers_in (step st (tick served done)) ≡ numbers_in st
tick_numbers st served done =
    each_numbers (expired (st.clock + 1)) (run st.clock served done st.slots) ∙ each_numbers (advance (λ e. next e st.clock (tasks_of st.slots)) served done) st.slots

-- a tick that may have been refused
pub still_numbered : (o : Option ℕ) (old new : Table) (served done : ℕ → Bool) (ns : List ℕ) → OnSome o (state_of new ≡ step (state_of old) (tick served done)) → IfNone o (new ≡ old) → numbers_in (state_of old) ≡ ns → numbers_in (state_of new) ≡ ns
still_numbered None old new served done ns steps same are = ap (λ b. numbers_in (state_of b)) same ∙ are
still_numbered (Some late) old new served done ns steps same are = ap numbers_in steps ∙ (tick_numbers (state_of old) served done ∙ are)

pub when_some : {X : Type 0} (o : Option X) (P Q : Type 0) → (P → Q) → OnSome o P → OnSome o Q
when_some None P Q f p = p
when_some (Some x) P Q f p = f p

-- the start
start_slots : (rs : List Resident) → with_jobs (jobs_of rs) (start (map numbered (map number_of rs))).slots ≡ (start (jobs_of rs)).slots
start_slots [] = refl
start_slots (r ∷ rs) = ap (λ l. record { job = job_of r; arrivals = []; tasks = [] } ∷ l) (start_slots rs)

pub start_same : (rs : List Resident) → of_jobs (jobs_of rs) (start (map numbered (map number_of rs))) ≡ start (jobs_of rs)
start_same rs = λ i. record { clock = 0; slots = start_slots rs i; lates = 0 }

pub start_numbers : (ns : List ℕ) → numbers_in (start (map numbered ns)) ≡ ns
start_numbers [] = refl
start_numbers (n ∷ ns) = ap (λ l. n ∷ l) (start_numbers ns)

-- a slot for each job
pub as_many : (rs : List Resident) (st : State) → numbers_in st ≡ map number_of rs → length (jobs_of rs) ≡ length st.slots
as_many rs st are = many rs st.slots are where
  many : (rs : List Resident) (ss : List Slot) → map (λ (s : Slot). s.job.number) ss ≡ map number_of rs → length (jobs_of rs) ≡ length ss
  many rs ss are = omega (arith, ap length are, lengths number_of rs, lengths job_of rs, lengths (λ (s : Slot). s.job.number) ss) where
    lengths : {X Y : Type 0} (f : X → Y) (xs : List X) → length (map f xs) ≡ length xs
    lengths f [] = refl
    lengths f (x ∷ xs) = let rec = lengths f xs in omega arith
