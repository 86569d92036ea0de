-- A text that passes the questions before the last one of loading is refused by no other than that.
use Rattle.std.proofs.Common.{◌≡◌, ℕ, ◌<◌, List, refl, sym, subst, arith}
use Rattle.board.specs.declared.refusal.Refusal.{Refusal}
use Rattle.board.specs.declared.refusal.Refusal.TheVariants.{Fault, NumberTaken, BoardFull, NoChoice, NoPlacement, NotResident, NoBranch, TooSoon, NoEngine, LastClock, ShortBuffer}
use Rattle.board.specs.Determined.{SameJob}
use Rattle.board.specs.Loading.{Comes, Free, LoadRefused, SomePossible}
use Rattle.board.specs.Placing.{Rules}
use Rattle.resident.specs.declared.resident.Resident.{Resident}
use Rattle.task.specs.declared.job.Job.{Job}
use Rattle.task.specs.declared.node.Node.{Node}
use Rattle.task.specs.declared.node.Numbering.TheVariants.{Choice}
use Rattle.task.specs.Flaws.{graph}
use Rattle.task.specs.Picks.{numbers}
use Rattle.text.proofs.Only.{one_job, refused_unread}
use Rattle.window.specs.Path.{Possible}

pub possible_same : (j k : Job) → SameJob k j → (c : ℕ) → Possible (graph j) c j.deadline → Possible (graph k) c k.deadline
possible_same j k same c possible =
    subst (λ (ns : List Node). Possible ns c k.deadline) (sym same.its_nodes) (subst (λ (d : ℕ). Possible (graph j) c d) (sym same.its_deadline) possible)

some_same : (j k : Job) → SameJob k j → SomePossible j → SomePossible k
some_same j k same (c, low, possible) = (c, subst (λ (ns : List Node). c < numbers Choice ns) (sym same.its_nodes) low, possible_same j k same c possible)

module _ (rules : Rules) (rs : List Resident) (text : List ℕ) (j : Job) (comes : Comes text rs j) (some : SomePossible j) where
  pub last_question : (f : Refusal) → LoadRefused rules rs text f → f ≡ NoPlacement
  last_question (Fault f) refused = absurd (refused_unread text f refused j comes.reads)
  last_question NumberTaken (k, reads, taken) = absurd (taken (subst (Free rs) (sym (one_job text j k comes.reads reads).its_number) comes.free))
  last_question BoardFull (k, reads, free, full) = let room = comes.room in absurd (omega arith)
  last_question NoChoice (k, other, none) = absurd (none (some_same j k (one_job text j k comes.reads other.reads) some))
  last_question NoPlacement refused = refl
  last_question NotResident refused = absurd refused
  last_question ShortBuffer refused = absurd refused
  last_question NoBranch refused = absurd refused
  last_question TooSoon refused = absurd refused
  last_question NoEngine refused = absurd refused
  last_question LastClock refused = absurd refused
