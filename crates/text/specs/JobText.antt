-- What a job text says.
--   Written                 a number, a period, a deadline and nodes
--   header_slots h          the lines before the nodes: job, period, deadline, and how many nodes there are
--   node_slots v n          the lines of the node v: its kind, the tag and ticks of a sub-task, and the lower nodes that it comes after
--   nodes_slots v ns        the lines of nodes from v on
--   header w                the numbers of w, and how many nodes it has
--   slots w                 the lines of a job text
--   written j               what the text of the job j says
--   Full n                  the table of the node n has a place for each of 24 nodes
--   NodeFits v n            the numbers of the node v lie in their ranges, its table is full, and it comes after lower nodes
--   NodesFit ns             so it is of each of the nodes
--   Forked ns f             the first fork at fault, or that there are too many forks
--   Reads text j            the text is that of the job j, whose nodes have full tables
--   Unread text             the text is that of no job
--   WrongLine text f        the text is that of no job, and not just the lines of some w: f names the line where it halts
--   WrongForks text f       the text is that of no job, but just the lines of some w: f names what is wrong with the forks of w
--   Refused text f          the text is that of no job, and f says why
use Rattle.std.specs.Prelude.{◌≡◌, ℕ, suc, ◌<◌, true, false, List, [], ◌∷◌, ◌++◌, length, decimal}
use Rattle.task.specs.declared.job.Job.{Job}
use Rattle.task.specs.declared.node.Node.{Node}
use Rattle.task.specs.declared.node.Node.TheVariants.{SubTask, Alternative, Conditional}
use Rattle.task.specs.Flaws.{graph}
use Rattle.task.specs.Graph.{at}
use Rattle.task.specs.Node.{after}
use Rattle.task.specs.Nodes.{Below, ForksFit, few_forks, fork_fits}
use Rattle.task.specs.Ranges.{numbers_fit}
use Rattle.text.specs.declared.fault.Fault.{Fault}
use Rattle.text.specs.declared.fault.Fault.TheVariants.{Size, Line, Form, Range, Fork, Forks}
use Rattle.text.specs.declared.job_text.Header.{Header}
use Rattle.text.specs.declared.key.Key as keys
use Rattle.text.specs.declared.value.Kind as kinds
use Rattle.text.specs.Slots.{Slot, slot, Halts, Missized, Sized, Whole}
use Rattle.text.specs.Value.{listed, places, word}

pub record Written : Type 0 where
  pub number : ℕ
  pub period : ℕ
  pub deadline : ℕ
  pub nodes : List Node

abbrev pub header_slots : Header → List Slot
header_slots h =
    slot keys.TheVariants.Job (decimal h.number)
    ∷ slot keys.TheVariants.Period (decimal h.period)
    ∷ slot (keys.TheVariants.Deadline h.period) (decimal h.deadline)
    ∷ slot keys.TheVariants.Nodes (decimal h.count)
    ∷ []

abbrev pub node_slots : ℕ → Node → List Slot
node_slots v (SubTask tag ticks us) =
    slot keys.TheVariants.Kind (word kinds.TheVariants.SubTask)
    ∷ slot keys.TheVariants.Tag (decimal tag)
    ∷ slot keys.TheVariants.Ticks (decimal ticks)
    ∷ slot (keys.TheVariants.After v) (listed (places us))
    ∷ []
node_slots v (Alternative us) =
    slot keys.TheVariants.Kind (word kinds.TheVariants.Alternative) ∷ slot (keys.TheVariants.After v) (listed (places us)) ∷ []
node_slots v (Conditional us) =
    slot keys.TheVariants.Kind (word kinds.TheVariants.Conditional) ∷ slot (keys.TheVariants.After v) (listed (places us)) ∷ []

abbrev pub nodes_slots : ℕ → List Node → List Slot
nodes_slots v [] = []
nodes_slots v (n ∷ ns) = node_slots v n ++ nodes_slots (suc v) ns

abbrev pub header : Written → Header
header w = record { number = w.number; period = w.period; deadline = w.deadline; count = length w.nodes }

abbrev pub slots : Written → List Slot
slots w = header_slots (header w) ++ nodes_slots 0 w.nodes

abbrev pub written : Job → Written
written j = record { number = j.number; period = j.period; deadline = j.deadline; nodes = graph j }

abbrev pub Full : Node → Type 0
Full n = length (after n) ≡ 24

pub record NodeFits (v : ℕ) (n : Node) : Type 0 where
  pub numbers : numbers_fit n ≡ true
  pub full : Full n
  pub below : Below v (after n)

abbrev pub NodesFit : List Node → Type 0
NodesFit ns = (v : ℕ) → v < length ns → NodeFits v (at ns v)

abbrev pub Forked : List Node → Fault → Type 0
Forked ns Size = ⊥
Forked ns (Line n) = ⊥
Forked ns (Form n) = ⊥
Forked ns (Range n) = ⊥
Forked ns (Fork v) = (fork_fits ns v ≡ false) × ((u : ℕ) → u < v → fork_fits ns u ≡ true)
Forked ns Forks = ForksFit ns × (few_forks ns ≡ false)

pub record Reads (text : List ℕ) (j : Job) : Type 0 where
  pub sized : Sized text
  pub whole : Whole (slots (written j)) text
  pub full : (v : ℕ) → v < length (graph j) → Full (at (graph j) v)

-- the text of no job
abbrev pub Unread : List ℕ → Type 0
Unread text = (j : Job) → Reads text j → ⊥

pub record WrongLine (text : List ℕ) (f : Fault) : Type 0 where
  pub sized : Sized text
  pub says : Written
  pub halts : Halts (slots says) text f
  pub unread : Unread text

pub record WrongForks (text : List ℕ) (f : Fault) : Type 0 where
  pub sized : Sized text
  pub says : Written
  pub whole : Whole (slots says) text
  pub forked : Forked says.nodes f
  pub unread : Unread text

abbrev pub Refused : List ℕ → Fault → Type 0
Refused text Size = Missized text
Refused text (Line n) = WrongLine text (Line n)
Refused text (Form n) = WrongLine text (Form n)
Refused text (Range n) = WrongLine text (Range n)
Refused text (Fork v) = WrongForks text (Fork v)
Refused text Forks = WrongForks text Forks
