-- Placed jobs, and what they ask of the engines of a board.
--   SubTask               the node, the engine, the window counted from an arrival, and the ticks
--   Job                   a number, a period, a deadline, and for each branch the sub-tasks that it reaches
--   SoundTask engines d s the engine is one of so many, the window opens before it closes and closes by d, and there is some work
--   Sound engines j       the period divides a belt cycle, the deadline is at least 1 and at most the period, there is a branch, and every sub-task is sound
--   branch_of j b         the sub-tasks of the branch b
--   on_engine e s         whether the sub-task is placed on the engine e
--   window_of s           its window
--   pattern_on e j        what the job asks of the engine e: its windows there, branch by branch
--   asked e jobs n        the most that the jobs together ask of the engine e in n ticks
--   Fits supply jobs e    that is never more than the engine e supplies in n ticks
--   AllFit engines supply jobs    so it is on every engine
--   Apart key xs          no two on the list have the same key
--   Distinct jobs         no two jobs have the same number, and no two sub-tasks of a branch the same node
use Rattle.std.specs.Prelude.{ℕ, ◌<◌, ◌≤◌, Bool, ◌≡◌, ◌%◌, ◌==◌, List, [], ◌∷◌, length, map, filter, slice_index_or, ◌≢◌}
use Rattle.std.specs.List.{AllByRecursion}
use Rattle.theory.specs.Demand.{demand_of_all}
use Rattle.theory.specs.Pattern.{Pattern, Window}

pub record SubTask : Type 0 where
  pub node : ℕ
  pub engine : ℕ
  pub offset : ℕ
  pub deadline : ℕ
  pub ticks : ℕ

pub record Job : Type 0 where
  pub number : ℕ
  pub period : ℕ
  pub deadline : ℕ
  pub branches : List (List SubTask)

pub record SoundTask (engines d : ℕ) (s : SubTask) : Type 0 where
  pub placed : s.engine < engines
  pub opens : s.offset < s.deadline
  pub closes : s.deadline ≤ d
  pub some_work : 1 ≤ s.ticks

pub record Sound (engines : ℕ) (j : Job) : Type 0 where
  pub divides : 14400 % j.period ≡ 0
  pub some_time : 1 ≤ j.deadline
  pub within_period : j.deadline ≤ j.period
  pub some_branch : 0 < length j.branches
  pub tasks : AllByRecursion (AllByRecursion (SoundTask engines j.deadline)) j.branches

abbrev pub branch_of : Job → ℕ → List SubTask
branch_of j b = slice_index_or j.branches b []

abbrev pub on_engine : ℕ → SubTask → Bool
on_engine e s = s.engine == e

abbrev pub window_of : SubTask → Window
window_of s = record { offset = s.offset; deadline = s.deadline; ticks = s.ticks }

abbrev pub pattern_on : ℕ → Job → Pattern
pattern_on e j = record {
  period = j.period;
  deadline = j.deadline;
  branches = map (λ branch. map window_of (filter (on_engine e) branch)) j.branches;
}

abbrev pub asked : ℕ → List Job → ℕ → ℕ
asked e jobs n = demand_of_all (map (pattern_on e) jobs) n

abbrev pub Fits : (ℕ → ℕ → ℕ) → List Job → ℕ → Type 0
Fits supply jobs e = (n : ℕ) → asked e jobs n ≤ supply e n

abbrev pub AllFit : ℕ → (ℕ → ℕ → ℕ) → List Job → Type 0
AllFit engines supply jobs = (e : ℕ) → e < engines → Fits supply jobs e

abbrev pub Apart : {X : Type 0} → (X → ℕ) → List X → Type 0
Apart key [] = Unit {0}
Apart key (x ∷ xs) = AllByRecursion (λ y. key y ≢ key x) xs × Apart key xs

pub record Distinct (jobs : List Job) : Type 0 where
  pub numbers : Apart (λ j. j.number) jobs
  pub nodes : AllByRecursion (λ j. AllByRecursion (Apart (λ s. s.node)) j.branches) jobs
