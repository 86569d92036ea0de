-- Placed jobs, as a run over lists has them.
--   sub_task p f t        the sub-task t of the plan p, where the part of each tag g sits on the engine f g
--   reached_by p row      the sub-tasks of the concrete graph that the row says are reached
--   job_at p f            the job of the plan p, where the part of each tag g sits on the engine f g
--   seat_of r g           the engine that the part of the tag g of the resident r sits on; every part has one, so the 0 never shows
--   job_of r              the resident r
--   jobs_of rs            the residents rs
use Rattle.std.specs.Prelude.{ℕ, Bool, false, List, map, filter, unwrap_or, slice_index_or}
use Rattle.plan.specs.declared.part.Task.{Task}
use Rattle.plan.specs.declared.plan.Plan.{Plan}
use Rattle.plan.specs.Part.{tasks_where}
use Rattle.plan.specs.Plan.{nodes_of, reached_rows}
use Rattle.resident.specs.declared.resident.Resident.{Resident}
use Rattle.resident.specs.Resident.{engine_of}
use Rattle.runs.specs.Job.{Job, SubTask}
use Rattle.sheet.specs.Sheet.{tag_of}
use Rattle.task.specs.Graph.{at}
use Rattle.task.specs.Node.{is_sub_task}

abbrev pub sub_task : Plan → (ℕ → ℕ) → Task → SubTask
sub_task p f t = record {
  node = t.node;
  engine = f (tag_of (at (nodes_of p) t.node));
  offset = t.window.offset;
  deadline = t.window.deadline;
  ticks = t.ticks;
}

abbrev pub reached_by : Plan → List Bool → List Task
reached_by p row = filter (λ (t : Task). slice_index_or row t.node false) (tasks_where p is_sub_task)

abbrev pub job_at : Plan → (ℕ → ℕ) → Job
job_at p f = record {
  number = p.job.number;
  period = p.job.period;
  deadline = p.job.deadline;
  branches = map (λ (row : List Bool). map (sub_task p f) (reached_by p row)) (reached_rows p);
}

abbrev pub seat_of : Resident → ℕ → ℕ
seat_of r g = unwrap_or (engine_of r g) 0

abbrev pub job_of : Resident → Job
job_of r = job_at r.plan (seat_of r)

abbrev pub jobs_of : List Resident → List Job
jobs_of rs = map job_of rs
