-- Placed jobs are sound and distinct, as runs want them.
use Rattle.std.proofs.Common.{◌≡◌, ◌≢◌, ℕ, zero, suc, ◌<◌, ◌≤◌, Bool, true, false, cond, ◌&&◌, nat_le, List, [], ◌∷◌, ◌++◌, map, length, get_or, Some, refl, sym, ◌∙◌, inl, inr, append-nil, arith}
use Rattle.std.specs.List.{AllByRecursion}
use Rattle.std.proofs.lemmas.Bool.{and_parts, cases_lt, eq-eqb, false≢true, leb-true}
use Rattle.std.proofs.lemmas.List.{length-map}
use Rattle.std.proofs.lemmas.Option.{none-some, slice_get_past}
use Rattle.engine.specs.Roster.{tag_of}
use Rattle.plan.specs.declared.part.Task.{Task}
use Rattle.plan.specs.declared.plan.Plan.{Plan}
use Rattle.plan.specs.Part.{tagged, task_at, tasks_below, tasks_where}
use Rattle.plan.specs.Pattern.{window_of}
use Rattle.plan.specs.Plan.{nodes_of, reached_rows}
use Rattle.plan.proofs.Formed.{all_below, period_divides, tasks_fit}
use Rattle.resident.specs.declared.resident.Resident.{Resident}
use Rattle.resident.specs.Resident.{number_of}
use Rattle.runs.specs.Job.{Apart, Distinct, Job, Sound, SoundTask, SubTask}
use Rattle.runs.proofs.Lists.{all_append, all_both, all_from_mem, all_map, all_weaker}
use Rattle.seated.specs.Jobs.{job_at, job_of, jobs_of, reached_by, seat_of, sub_task}
use Rattle.seated.specs.Lasting.{WellSeated}
use Rattle.seated.specs.Placement.{Placement}
use Rattle.seated.proofs.Lists.{all_filter, apart_filter, apart_push, apart_to_map}
use Rattle.seated.proofs.Patterns.{its_part, member_where}
use Rattle.seated.proofs.Seats.{seats_place}
use Rattle.sheet.specs.Sheet.{tag_of as tag_at}
use Rattle.slack.specs.declared.rule.Position.{Position}
use Rattle.task.specs.declared.node.Node.{Node}
use Rattle.task.specs.declared.node.Node.TheVariants.{Alternative, Conditional, SubTask as Works}
use Rattle.task.specs.Graph.{at}
use Rattle.task.specs.Node.{is_sub_task, ticks}
use Rattle.task.specs.Ranges.{numbers_fit}
use Rattle.theory.specs.Pattern.{FitsIn}

some_work : (n : Node) → numbers_fit n ≡ true → is_sub_task n ≡ true → 1 ≤ ticks n
some_work (Works tag work nodes) fit is =
    leb-true 1 work (and_parts (nat_le 1 work) (nat_le work 14400) (and_parts (nat_le tag 7) (nat_le 1 work && nat_le work 14400) fit).1).0
some_work (Alternative nodes) fit is = absurd (false≢true is)
some_work (Conditional nodes) fit is = absurd (false≢true is)

own_tag : (n : Node) → is_sub_task n ≡ true → tagged (tag_at n) n ≡ true
own_tag (Works tag work nodes) is = eq-eqb tag tag refl
own_tag (Alternative nodes) is = absurd (false≢true is)
own_tag (Conditional nodes) is = absurd (false≢true is)

-- an engine with a tag is there
pub engine_low : (tags : List ℕ) (e g : ℕ) → tag_of tags e ≡ Some g → e < length tags
engine_low tags e g is = elim (cases_lt e (length tags)) [
  | inl low ↦ low
  | inr past ↦ absurd (none-some g (sym (slice_get_past tags e past) ∙ is))
]

module _ (p : Plan) where
  -- the sub-tasks of a plan stand by rising node
  tasks_apart : (t : ℕ → Bool) (n : ℕ) → Apart (λ (x : Task). x.node) (tasks_below p t n)
  tasks_apart t zero = tt
  tasks_apart t (suc n) = go (t n) (tasks_apart t n)
    where
      go : (b : Bool) → Apart (λ (x : Task). x.node) (tasks_below p t n) → Apart (λ (x : Task). x.node) (tasks_below p t n ++ cond b (task_at p n ∷ []) [])
      go true rec = apart_push (λ (x : Task). x.node) (tasks_below p t n) (task_at p n) rec
          (all_weaker (λ (x : Task). x.node < n) (λ (x : Task). x.node ≢ n) (λ x low same. omega arith) (tasks_below p t n)
          (all_below (λ (x : Task). x.node < n) p t n (λ v low _. low)))
      go false rec = rw (append-nil (tasks_below p t n)) rec

  module _ (f : ℕ → ℕ) where
    pub branches_apart : AllByRecursion (Apart (λ (s : SubTask). s.node)) (job_at p f).branches
    branches_apart = all_map (Apart (λ (s : SubTask). s.node)) (λ (row : List Bool). map (sub_task p f) (reached_by p row)) (reached_rows p)
        (all_from_mem _ (reached_rows p) (λ row _. apart_to_map (λ (s : SubTask). s.node) (sub_task p f) (reached_by p row)
        (apart_filter (λ (x : Task). x.node) (λ (x : Task). get_or row x.node false) (tasks_where p is_sub_task)
        (tasks_apart (member_where p is_sub_task) (length (nodes_of p))))))

    module _ (tags : List ℕ) (placement : Placement tags p f) where
      tasks_placed : AllByRecursion (λ (x : Task). (sub_task p f x).engine < length tags) (tasks_where p is_sub_task)
      tasks_placed = all_below (λ (x : Task). (sub_task p f x).engine < length tags) p (member_where p is_sub_task) (length (nodes_of p)) (λ v low passes.
          let n = at (nodes_of p) v in
          let (member, is) = and_parts (get_or p.members v false) (is_sub_task n) passes in
          engine_low tags (f (tag_at n)) (tag_at n) (placement (tag_at n) (its_part p f 0 v low member (own_tag n is))))

      tasks_work : AllByRecursion (λ (x : Task). 1 ≤ x.ticks) (tasks_where p is_sub_task)
      tasks_work = all_below (λ (x : Task). 1 ≤ x.ticks) p (member_where p is_sub_task) (length (nodes_of p)) (λ v low passes.
          let n = at (nodes_of p) v in
          some_work n (p.job.ranged v low) (and_parts (get_or p.members v false) (is_sub_task n) passes).1)

      tasks_sound : AllByRecursion (λ (x : Task). SoundTask (length tags) p.job.deadline (sub_task p f x)) (tasks_where p is_sub_task)
      tasks_sound =
          all_both (λ (x : Task). FitsIn p.job.deadline (window_of x)) (λ (x : Task). ((sub_task p f x).engine < length tags) × (1 ≤ x.ticks)) (λ (x : Task). SoundTask (length tags) p.job.deadline (sub_task p f x))
          (λ x fits more. record { placed = more.0; opens = fits.opens; closes = fits.closes; some_work = more.1 })
          (tasks_where p is_sub_task)
          (tasks_fit p is_sub_task (λ n is. is))
          (all_both (λ (x : Task). (sub_task p f x).engine < length tags) (λ (x : Task). 1 ≤ x.ticks) (λ (x : Task). ((sub_task p f x).engine < length tags) × (1 ≤ x.ticks))
          (λ x a b. (a, b)) (tasks_where p is_sub_task) tasks_placed tasks_work)

      -- a job that is placed is sound
      pub sound_at : Sound (length tags) (job_at p f)
      sound_at = record {
        divides = period_divides p;
        some_time = leb-true 1 p.job.deadline (and_parts (nat_le 1 p.job.deadline) (nat_le p.job.deadline p.job.period) p.job.due).0;
        within_period = leb-true p.job.deadline p.job.period (and_parts (nat_le 1 p.job.deadline) (nat_le p.job.deadline p.job.period) p.job.due).1;
        some_branch = omega (arith, p.some, length-map (reached_rows p) (λ (row : List Bool). map (sub_task p f) (reached_by p row)));
        tasks = all_map (AllByRecursion (SoundTask (length tags) p.job.deadline)) (λ (row : List Bool). map (sub_task p f) (reached_by p row)) (reached_rows p)
            (all_from_mem _ (reached_rows p) (λ row _. all_map (SoundTask (length tags) p.job.deadline) (sub_task p f) (reached_by p row)
            (all_filter (λ (x : Task). SoundTask (length tags) p.job.deadline (sub_task p f x)) (λ (x : Task). get_or row x.node false) (tasks_where p is_sub_task) tasks_sound)));
      }

module _ (tags : List ℕ) (local : Position → ℕ) where
  pub jobs_sound : (rs : List Resident) → AllByRecursion (WellSeated tags local) rs → AllByRecursion (Sound (length tags)) (jobs_of rs)
  jobs_sound rs each = all_map (Sound (length tags)) job_of rs
      (all_weaker (WellSeated tags local) (λ r. Sound (length tags) (job_of r)) (λ r well. sound_at r.plan (seat_of r) tags (seats_place r tags well.seats)) rs each)

  pub sound_beside : (rs : List Resident) → AllByRecursion (WellSeated tags local) rs → (p : Plan) (f : ℕ → ℕ) → Placement tags p f → AllByRecursion (Sound (length tags)) (jobs_of rs ++ job_at p f ∷ [])
  sound_beside rs each p f placement = all_append (Sound (length tags)) (jobs_of rs) (job_at p f ∷ []) (jobs_sound rs each) (sound_at p f tags placement, tt)

nodes_apart : (rs : List Resident) → AllByRecursion (λ (j : Job). AllByRecursion (Apart (λ (s : SubTask). s.node)) j.branches) (jobs_of rs)
nodes_apart rs = all_map (λ (j : Job). AllByRecursion (Apart (λ (s : SubTask). s.node)) j.branches) job_of rs (all_from_mem _ rs (λ r _. branches_apart r.plan (seat_of r)))

pub jobs_distinct : (rs : List Resident) → Apart number_of rs → Distinct (jobs_of rs)
jobs_distinct rs differ = record { numbers = apart_to_map (λ (j : Job). j.number) job_of rs differ; nodes = nodes_apart rs }

-- so they are with a job beside them whose number is free
pub distinct_beside : (rs : List Resident) → Apart number_of rs → (p : Plan) (f : ℕ → ℕ) → AllByRecursion (λ r. number_of r ≢ p.job.number) rs → Distinct (jobs_of rs ++ job_at p f ∷ [])
distinct_beside rs differ p f free = record {
  numbers = apart_push (λ (j : Job). j.number) (jobs_of rs) (job_at p f) (apart_to_map (λ (j : Job). j.number) job_of rs differ)
      (all_map (λ (j : Job). j.number ≢ p.job.number) job_of rs free);
  nodes = all_append (λ (j : Job). AllByRecursion (Apart (λ (s : SubTask). s.node)) j.branches) (jobs_of rs) (job_at p f ∷ []) (nodes_apart rs) (branches_apart p f, tt);
}
