-- Which numbers and nodes make a job.
--   graph j               the nodes of the job j
--   HeaderFits n t d k    number n, period t, deadline d and k nodes lie in their ranges
--   InRange n t d ns      so do all numbers and edges of a job of the nodes ns
--   MadeOf n t d ns j     j is the job of these
--   Flawed n t d ns f     they make none, and f says why: out of range, the first fork at fault, or too many forks
use Rattle.std.specs.Prelude.{◌≡◌, ℕ, ◌<◌, true, false, List, length}
use Rattle.few.specs.Few.{items}
use Rattle.task.specs.declared.node.Node.{Node}
use Rattle.task.specs.declared.job.Job.{Job}
use Rattle.task.specs.declared.ranges.Field.TheVariants.{Number, Period, Deadline, Count}
use Rattle.task.specs.declared.sound.Flaw.{Flaw}
use Rattle.task.specs.declared.sound.Flaw.TheVariants.{Range, Fork, Forks}
use Rattle.task.specs.Graph.{Upward}
use Rattle.task.specs.Nodes.{fork_fits, few_forks, NumbersFit, ForksFit}
use Rattle.task.specs.Ranges.{fits}

abbrev pub graph : Job → List Node
graph j = items j.nodes

abbrev pub HeaderFits : (number period deadline count : ℕ) → Type 0
HeaderFits number period deadline count =
    (fits (Number number) ≡ true) × (fits (Period period) ≡ true) × (fits (Deadline period deadline) ≡ true) × (fits (Count count) ≡ true)

pub record InRange (number period deadline : ℕ) (ns : List Node) : Type 0 where
  pub header : HeaderFits number period deadline (length ns)
  pub ranged : NumbersFit ns
  pub upward : Upward ns

pub record MadeOf (number period deadline : ℕ) (ns : List Node) (j : Job) : Type 0 where
  pub its_number : j.number ≡ number
  pub its_period : j.period ≡ period
  pub its_deadline : j.deadline ≡ deadline
  pub its_nodes : graph j ≡ ns

abbrev pub Flawed : (number period deadline : ℕ) → List Node → Flaw → Type 0
Flawed number period deadline ns Range = InRange number period deadline ns → ⊥
Flawed number period deadline ns (Fork v) =
    InRange number period deadline ns × (fork_fits ns v ≡ false) × ((u : ℕ) → u < v → fork_fits ns u ≡ true)
Flawed number period deadline ns Forks =
    InRange number period deadline ns × ForksFit ns × (few_forks ns ≡ false)
