-- Loading a job onto a board.
--   Free rs n                      no resident has the number n
--   Comes text rs j                the text is that of the job j, whose number is free, and there is room for it
--   IsLoaded rules rs text r       r is the job of the text, placed
--   Takes rules rs text n after listing    the job of the text is loaded under the number n: the board gains it, and the order is told of its parts
--   SomePossible j                 some choice of the job j is possible
--   LoadRefused rules rs text f    the first question that the text fails is that of f
use Rattle.std.specs.Prelude.{◌≡◌, ℕ, ◌<◌, ◌≤◌, ◌≢◌, List, [], ◌∷◌, ◌++◌, length}
use Rattle.std.specs.List.{All}
use Rattle.board.specs.declared.refusal.Refusal.{Refusal}
use Rattle.board.specs.declared.refusal.Refusal.TheVariants.{Fault, NumberTaken, BoardFull, NoChoice, NoPlacement, NotResident, NoBranch, TooSoon, NoEngine, LastClock, ShortBuffer}
use Rattle.board.specs.Placing.{CannotBePlaced, Places, Rules, tellings}
use Rattle.resident.specs.declared.resident.Resident.{Resident}
use Rattle.resident.specs.Resident.{number_of}
use Rattle.task.specs.declared.job.Job.{Job}
use Rattle.task.specs.declared.node.Numbering.TheVariants.{Choice}
use Rattle.task.specs.Flaws.{graph}
use Rattle.task.specs.Picks.{numbers}
use Rattle.text.specs.JobText.{Reads, Refused}
use Rattle.window.specs.Path.{Possible}

abbrev pub Free : List Resident → ℕ → Type 0
Free rs n = All (λ r. number_of r ≢ n) rs

pub record Comes (text : List ℕ) (rs : List Resident) (j : Job) : Type 0 where
  pub reads : Reads text j
  pub free : Free rs j.number
  pub room : length rs < 16

pub record IsLoaded (rules : Rules) (rs : List Resident) (text : List ℕ) (r : Resident) : Type 0 where
  pub comes : Comes text rs r.plan.job
  pub places : Places rules rs r.plan.job r

pub record Takes (rules : Rules) (rs : List Resident) (text : List ℕ) (n : ℕ) (after : List Resident) (listing : List (ℕ × ℕ) → List ℕ → ℕ → List ℕ → List ℕ) : Type 0 where
  pub job : Resident
  pub loaded : IsLoaded rules rs text job
  pub its_number : n ≡ number_of job
  pub gained : after ≡ rs ++ job ∷ []
  pub told : (ts : List (ℕ × ℕ)) → listing ts ≡ rules.listing (tellings job ++ ts)

abbrev pub SomePossible : Job → Type 0
SomePossible j = (c : ℕ) × (c < numbers Choice (graph j)) × Possible (graph j) c j.deadline

abbrev pub LoadRefused : Rules → List Resident → List ℕ → Refusal → Type 0
LoadRefused rules rs text (Fault f) = Refused text f
LoadRefused rules rs text NumberTaken = (j : Job) × Reads text j × (Free rs j.number → ⊥)
LoadRefused rules rs text BoardFull = (j : Job) × Reads text j × Free rs j.number × (16 ≤ length rs)
LoadRefused rules rs text NoChoice = (j : Job) × Comes text rs j × (SomePossible j → ⊥)
LoadRefused rules rs text NoPlacement = (j : Job) × Comes text rs j × SomePossible j × ((c : ℕ) → c < numbers Choice (graph j) → CannotBePlaced rules rs j c)
LoadRefused rules rs text NotResident = ⊥
LoadRefused rules rs text NoBranch = ⊥
LoadRefused rules rs text TooSoon = ⊥
LoadRefused rules rs text NoEngine = ⊥
LoadRefused rules rs text LastClock = ⊥
LoadRefused rules rs text ShortBuffer = ⊥
