-- Worked cases: the windows of two jobs, and what their arrivals reach, by computing.
use Rattle.std.proofs.Common.{◌≡◌, ℕ, Bool, false, ◌||◌, eqb, List, [], ◌∷◌, map, refl, ◌∙◌}
use Rattle.plan.specs.declared.part.Task.{Task}
use Rattle.plan.specs.declared.plan.Plan.{Plan}
use Rattle.plan.specs.Part.{tagged, tasks_where}
use Rattle.plan.specs.Pattern.{branch_of, part_pattern}
use Rattle.plan.specs.Plan.{IsPlan}
use Rattle.slack.specs.Even.{even}
use Rattle.slack.specs.Proportional.{proportional}
use Rattle.task.specs.declared.job.Job.{Job}
use Rattle.task.specs.declared.node.Node.{Node}
use Rattle.task.specs.declared.node.Node.TheVariants.{SubTask, Alternative, Conditional}
use Rattle.task.specs.Flaws.{MadeOf}
use Rattle.task.specs.Node.{is_sub_task}
use Rattle.theory.specs.Pattern.{Window}
use Rattle.window.specs.Greatest.{greatest}
use Rattle.computed.specs.Asked.{pattern, tasks}
use Rattle.computed.specs.Graph.{reached}
use Rattle.computed.specs.Tables.{each, falling, rising, some_below}
use Rattle.computed.proofs.Asked.{known_part_pattern, known_tasks}

-- a node's list of those that it comes after, as a job has it
unfoldable pub is_among : List ℕ → ℕ → Bool
is_among [] u = false
is_among (x ∷ xs) u = eqb x u || is_among xs u

unfoldable pub after : List ℕ → List Bool
after us = each (is_among us) 24

unfoldable pub node_task : ℕ → ℕ → ℕ → ℕ → Task
node_task v o l w = record { node = v; window = record { offset = o; deadline = l }; ticks = w }

unfoldable pub window : ℕ → ℕ → ℕ → Window
window o l w = record { offset = o; deadline = l; ticks = w }

-- 200 ticks, then an alternative to 300 or 600 ticks, then 100 ticks
unfoldable pub one_alternative : List Node
one_alternative =
    SubTask 0 200 (after [])
    ∷ Alternative (after (0 ∷ []))
    ∷ SubTask 1 300 (after (1 ∷ []))
    ∷ SubTask 0 600 (after (1 ∷ []))
    ∷ SubTask 0 100 (after (2 ∷ 3 ∷ []))
    ∷ []

pub proportional_0 : tasks proportional one_alternative 1000 0 is_sub_task ≡ node_task 0 0 333 200 ∷ node_task 2 333 833 300 ∷ node_task 4 833 1000 100 ∷ []
unfolding is_among after node_task one_alternative each rising falling some_below greatest
proportional_0 = refl

pub proportional_1 : tasks proportional one_alternative 1000 1 is_sub_task ≡ node_task 0 0 222 200 ∷ node_task 3 222 888 600 ∷ node_task 4 888 1000 100 ∷ []
unfolding is_among after node_task one_alternative each rising falling some_below greatest
proportional_1 = refl

-- the pattern of the part of tag 0
pub pattern_1 : pattern 1200 1000 one_alternative 1 (tasks proportional one_alternative 1000 1 (tagged 0))
    ≡ record { period = 1200; deadline = 1000; branches = (window 0 222 200 ∷ window 222 888 600 ∷ window 888 1000 100 ∷ []) ∷ [] }
unfolding is_among after window one_alternative each rising falling some_below greatest
pattern_1 = refl

pub even_0 : tasks even one_alternative 1000 0 is_sub_task ≡ node_task 0 0 333 200 ∷ node_task 2 333 766 300 ∷ node_task 4 766 1000 100 ∷ []
unfolding is_among after node_task one_alternative each rising falling some_below greatest
even_0 = refl

pub even_1 : tasks even one_alternative 1000 1 is_sub_task ≡ node_task 0 0 233 200 ∷ node_task 3 233 866 600 ∷ node_task 4 866 1000 100 ∷ []
unfolding is_among after node_task one_alternative each rising falling some_below greatest
even_1 = refl

-- a conditional, of which one edge leads to an alternative, after another alternative
unfoldable pub branches : List Node
branches =
    SubTask 0 100 (after [])
    ∷ Alternative (after (0 ∷ []))
    ∷ SubTask 0 900 (after (1 ∷ []))
    ∷ SubTask 0 300 (after (1 ∷ []))
    ∷ Conditional (after (2 ∷ 3 ∷ []))
    ∷ SubTask 0 50 (after (4 ∷ []))
    ∷ Alternative (after (4 ∷ []))
    ∷ SubTask 0 250 (after (6 ∷ []))
    ∷ SubTask 0 400 (after (6 ∷ []))
    ∷ SubTask 0 100 (after (5 ∷ 7 ∷ 8 ∷ []))
    ∷ []

pub branches_2 : tasks proportional branches 1000 2 is_sub_task
    ≡ node_task 0 0 133 100 ∷ node_task 3 133 533 300 ∷ node_task 5 533 818 50 ∷ node_task 7 533 866 250 ∷ node_task 9 866 1000 100 ∷ []
unfolding is_among after node_task branches each rising falling some_below greatest
branches_2 = refl

-- an arrival takes the way over node 5 or the way over node 7
pub branches_reached : map (branch_of (tasks proportional branches 1000 2 is_sub_task)) (reached branches 2)
    ≡ (window 0 133 100 ∷ window 133 533 300 ∷ window 533 818 50 ∷ window 866 1000 100 ∷ [])
    ∷ (window 0 133 100 ∷ window 133 533 300 ∷ window 533 866 250 ∷ window 866 1000 100 ∷ [])
    ∷ []
unfolding is_among after window branches each rising falling some_below greatest
branches_reached = refl

-- so every plan of such a job has them, whatever made it
module _ (number : ℕ) (j : Job) (made : MadeOf number 1200 1000 one_alternative j) (p : Plan) (is : IsPlan proportional j 1 p) where
  pub its_tasks : tasks_where p is_sub_task ≡ node_task 0 0 222 200 ∷ node_task 3 222 888 600 ∷ node_task 4 888 1000 100 ∷ []
  its_tasks = known_tasks proportional number 1200 1000 one_alternative j made 1 p is is_sub_task ∙ proportional_1

  pub its_pattern : part_pattern p 0 ≡ record { period = 1200; deadline = 1000; branches = (window 0 222 200 ∷ window 222 888 600 ∷ window 888 1000 100 ∷ []) ∷ [] }
  its_pattern = known_part_pattern proportional number 1200 1000 one_alternative j made 1 p is 0 ∙ pattern_1
