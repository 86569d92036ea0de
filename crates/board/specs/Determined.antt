-- A text has one answer.
--   SameJob j k           the job j has the number, the period, the deadline and the nodes of the job k
--   Alike r q             r and q are the same job under the same choice, with the same windows and on the same engines, and so ask and show the same
--   Complete rules        for each tag the rules list every engine of the tag once, and nothing else
--   Determined rules rs text    the text is refused by one question, or loaded and not refused, and what is loaded is alike
--   LoadDetermined        so it is by all such rules, whatever the residents and the text
use Rattle.std.specs.Prelude.{◌≡◌, ℕ, Bool, List}
use Rattle.board.specs.declared.refusal.Refusal.{Refusal}
use Rattle.board.specs.Asked.{asked_by}
use Rattle.board.specs.Loading.{IsLoaded, LoadRefused}
use Rattle.board.specs.Placing.{Rules, tellings}
use Rattle.order.specs.Listing.{EachOnce}
use Rattle.plan.specs.Part.{tasks_where}
use Rattle.resident.specs.declared.resident.Resident.{Resident}
use Rattle.sheet.specs.Sheet.{sheet_of}
use Rattle.task.specs.declared.job.Job.{Job}
use Rattle.task.specs.declared.node.Node.{Node}
use Rattle.task.specs.Flaws.{graph, MadeOf}

abbrev pub SameJob : Job → Job → Type 0
SameJob j k = MadeOf k.number k.period k.deadline (graph k) j

pub record Alike (r q : Resident) : Type 0 where
  pub job : SameJob r.plan.job q.plan.job
  pub choice : r.plan.choice ≡ q.plan.choice
  pub tasks : (t : Node → Bool) → tasks_where r.plan t ≡ tasks_where q.plan t
  pub seats : tellings r ≡ tellings q
  pub asked : (e : ℕ) → asked_by r e ≡ asked_by q e
  pub sheet : sheet_of r ≡ sheet_of q

abbrev pub Complete : Rules → Type 0
Complete rules = (told : List (ℕ × ℕ)) (g : ℕ) (loads : List ℕ) → EachOnce rules.tags g (rules.listing told rules.tags g loads)

pub record Determined (rules : Rules) (rs : List Resident) (text : List ℕ) : Type 0 where
  pub refusal : (f g : Refusal) → LoadRefused rules rs text f → LoadRefused rules rs text g → f ≡ g
  pub apart : (r : Resident) (f : Refusal) → IsLoaded rules rs text r → LoadRefused rules rs text f → ⊥
  pub loaded : (r q : Resident) → IsLoaded rules rs text r → IsLoaded rules rs text q → Alike r q

abbrev pub LoadDetermined : Type 0
LoadDetermined = (rules : Rules) → Complete rules → (rs : List Resident) (text : List ℕ) → Determined rules rs text
