-- Jobs that are placed alike are one job of a run.
use Rattle.std.proofs.Common.{◌≡◌, ℕ, Bool, false, List, [], map, filter, length, get_or, refl, sym, ap, ◌∙◌}
use Rattle.std.proofs.Math.Path.{fun_ext}
use Rattle.board.specs.Determined.{SameJob}
use Rattle.computed.proofs.Asked.{known_tasks, map_one, many_are, reached_are}
use Rattle.computed.specs.Graph.{reached}
use Rattle.plan.specs.declared.part.Task.{Task}
use Rattle.plan.specs.declared.plan.Plan.{Plan}
use Rattle.plan.specs.Part.{tasks_where}
use Rattle.plan.specs.Plan.{IsPlan, nodes_of, reached_rows}
use Rattle.runs.specs.Job.{Job as Run, SubTask}
use Rattle.seated.specs.Jobs.{job_at}
use Rattle.sheet.specs.Sheet.{tag_of}
use Rattle.slack.specs.declared.rule.Position.{Position}
use Rattle.task.specs.declared.job.Job.{Job}
use Rattle.task.specs.declared.node.Node.{Node}
use Rattle.task.specs.Flaws.{graph}
use Rattle.task.specs.Graph.{at}
use Rattle.task.specs.Node.{is_sub_task}

-- the sub-tasks of a branch, by the nodes, the row and the sub-tasks of the plan
abbrev branch : (ℕ → ℕ) → List Node → List Task → List Bool → List SubTask
branch f ns ts row = map (λ (t : Task). let x : SubTask = record { node = t.node; engine = f (tag_of (at ns t.node)); offset = t.window.offset; deadline = t.window.deadline; ticks = t.ticks } in x)
    (filter (λ (t : Task). get_or row t.node false) ts)

branch_same : (f : ℕ → ℕ) (ns : List Node) (ts : List Task) (a b : List Bool) → ((v : ℕ) → get_or a v false ≡ get_or b v false) → branch f ns ts a ≡ branch f ns ts b
branch_same f ns ts a b same =
    ap (λ (kept : Task → Bool). map (λ (t : Task). let x : SubTask = record { node = t.node; engine = f (tag_of (at ns t.node)); offset = t.window.offset; deadline = t.window.deadline; ticks = t.ticks } in x) (filter kept ts))
    (fun_ext (λ (t : Task). same t.node))

abbrev made : ℕ → ℕ → ℕ → (ℕ → ℕ) → List Node → List Task → List (List Bool) → Run
made n period d f ns ts rows = record { number = n; period = period; deadline = d; branches = map (branch f ns ts) rows }

module _ (local : Position → ℕ) (c : ℕ) (j k : Job) (same : SameJob k j) (p q : Plan) (a : IsPlan local j c p) (b : IsPlan local k c q) (f : ℕ → ℕ) where
  own : SameJob j j
  own = record { its_number = refl; its_period = refl; its_deadline = refl; its_nodes = refl }

  tasks : tasks_where p is_sub_task ≡ tasks_where q is_sub_task
  tasks = known_tasks local j.number j.period j.deadline (graph j) j own c p a is_sub_task ∙ sym (known_tasks local j.number j.period j.deadline (graph j) k same c q b is_sub_task)

  rows_long : length (reached_rows p) ≡ length (reached_rows q)
  rows_long = many_are local j c p a ∙ ap (λ (ns : List Node). length (reached ns c)) (sym same.its_nodes) ∙ sym (many_are local k c q b)

  rows_say : (i v : ℕ) → get_or (get_or (reached_rows p) i []) v false ≡ get_or (get_or (reached_rows q) i []) v false
  rows_say i v =
      reached_are local j c p a i v ∙ ap (λ (ns : List Node). get_or (get_or (reached ns c) i []) v false) (sym same.its_nodes) ∙ sym (reached_are local k c q b i v)

  nodes : nodes_of p ≡ nodes_of q
  nodes = ap graph a.its_job ∙ sym same.its_nodes ∙ sym (ap graph b.its_job)

  pub job_same : job_at p f ≡ job_at q f
  job_same =
      let rows = map_one (branch f (nodes_of p) (tasks_where p is_sub_task)) (reached_rows p) (reached_rows q) [] rows_long
      (λ i low. branch_same f (nodes_of p) (tasks_where p is_sub_task) (get_or (reached_rows p) i []) (get_or (reached_rows q) i []) (rows_say i)) in
      ap (λ (l : List (List SubTask)). let x : Run = record { number = p.job.number; period = p.job.period; deadline = p.job.deadline; branches = l } in x) rows
      ∙ ap (λ n. made n p.job.period p.job.deadline f (nodes_of p) (tasks_where p is_sub_task) (reached_rows q)) (ap (λ (x : Job). x.number) a.its_job ∙ sym same.its_number ∙ sym (ap (λ (x : Job). x.number) b.its_job))
      ∙ ap (λ n. made q.job.number n p.job.deadline f (nodes_of p) (tasks_where p is_sub_task) (reached_rows q)) (ap (λ (x : Job). x.period) a.its_job ∙ sym same.its_period ∙ sym (ap (λ (x : Job). x.period) b.its_job))
      ∙ ap (λ n. made q.job.number q.job.period n f (nodes_of p) (tasks_where p is_sub_task) (reached_rows q)) (ap (λ (x : Job). x.deadline) a.its_job ∙ sym same.its_deadline ∙ sym (ap (λ (x : Job). x.deadline) b.its_job))
      ∙ ap (λ ns. made q.job.number q.job.period q.job.deadline f ns (tasks_where p is_sub_task) (reached_rows q)) nodes
      ∙ ap (λ ts. made q.job.number q.job.period q.job.deadline f (nodes_of q) ts (reached_rows q)) tasks
