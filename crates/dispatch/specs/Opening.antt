-- What an arrival opens.
--   sub_task w          the sub-task w, as a run over lists has it
--   opened_at t w       the sub-task w of an arrival at t: it is ready where its offset is 0, else it waits
--   opened_in n t ws s  what is kept of the slot s of a run over lists after an arrival at t of the job with the number n that opens ws
--   replaced f s        the slot f in the place of s, if it is of the same job
use Rattle.std.specs.Prelude.{ℕ, ◌+◌, cond, ◌==◌, List, [], ◌∷◌, map}
use Rattle.dispatch.specs.declared.phase.Phase.TheVariants.{Ready, Waiting}
use Rattle.dispatch.specs.declared.slot.Open.{Open}
use Rattle.dispatch.specs.declared.slot.Slot.{Slot}
use Rattle.dispatch.specs.declared.sub_task.SubTask.{SubTask}
use Rattle.dispatch.specs.Kept.{kept_task}
use Rattle.runs.specs.Events.{opened}
use Rattle.runs.specs.Job.{SubTask as ModelSubTask}
use Rattle.runs.specs.State.{Slot as ModelSlot}

abbrev pub sub_task : SubTask → ModelSubTask
sub_task w = record { node = w.node; engine = w.engine; offset = w.offset; deadline = w.deadline; ticks = w.ticks }

abbrev pub opened_at : ℕ → SubTask → Open
opened_at t w = record {
  node = w.node;
  engine = w.engine;
  release = t + w.offset;
  due = t + w.deadline;
  phase = cond (w.offset == 0) (Ready w.ticks) (Waiting w.ticks);
  placed = w.placed;
}

abbrev pub opened_in : ℕ → ℕ → List SubTask → ModelSlot → ModelSlot
opened_in n t ws s = cond (s.job.number == n) (record { job = s.job; arrivals = record { time = t; branch = 0 } ∷ []; tasks = map (λ w. kept_task (opened n t (sub_task w))) ws }) s

abbrev pub replaced : Slot → Slot → Slot
replaced f s = cond (s.job == f.job) f s
