-- The sub-tasks that an arrival reaches: where they sit, their windows, and gathering them node by node.
use Rattle.std.proofs.Common.{◌≡◌, ℕ, ◌+◌, ◌<◌, ◌≤◌, Bool, true, false, cond, ◌&&◌, eqb, leb, List, [], ◌∷◌, ◌++◌, map, filter, get_or, Some, refl, sym, ap, ◌∙◌, append-nil, add-one, inl, inr, arith}
use Rattle.std.specs.List.{All}
use Rattle.std.proofs.Math.Nat.{mod-eq_of_lt}
use Rattle.std.proofs.lemmas.Bool.{and_parts, cases_Bool, cases_lt, leb-true}
use Rattle.std.proofs.lemmas.List.{map-append}
use Rattle.std.proofs.lemmas.List.Elements.{All-head, All-tail, filter-append}
use Rattle.std.proofs.lemmas.Option.{none-some, same_Some}
use Rattle.few.specs.Few.{items}
use Rattle.plan.specs.declared.part.Task.{Task}
use Rattle.plan.specs.declared.plan.Plan.{Plan}
use Rattle.plan.specs.Part.{task_at, tasks_below}
use Rattle.plan.specs.Plan.{nodes_of}
use Rattle.plan.proofs.Formed.{period_divides}
use Rattle.resident.specs.declared.resident.Resident.{Resident}
use Rattle.resident.specs.declared.resident.Seat.{Seat}
use Rattle.resident.specs.Resident.{engine_among, engine_of}
use Rattle.resident.specs.Seats.{Fair}
use Rattle.running.specs.Reached.{is_reached, reached_at}
use Rattle.runs.specs.Job.{SubTask}
use Rattle.seated.specs.Jobs.{seat_of, sub_task}
use Rattle.task.specs.Graph.{at}
use Rattle.task.specs.Node.{is_sub_task}
use Rattle.window.specs.Windows.{deadline_of, offset_of}

-- a seat's engine is one of 16
among_low : (p : Plan) (ss : List Seat) (g e : ℕ) → All (Fair p) ss → engine_among ss g ≡ Some e → e < 16
among_low p [] g e all is = absurd (none-some e is)
among_low p (s ∷ ss) g e all is = elim (cases_Bool (eqb s.tag g)) [
  | inl here ↦ let same = same_Some s.engine e (rw here at is) in omega (arith, same, (All-head (Fair p) s ss all).placed)
  | inr other ↦ among_low p ss g e (All-tail (Fair p) s ss all) (rw other at is)
]

pub engine_low : (r : Resident) (g e : ℕ) → engine_of r g ≡ Some e → e < 16
engine_low r g e is = among_low r.plan (items r.seats) g e r.seated is

-- a period divides a belt cycle, so it is no longer
period_few : (p : Plan) → p.job.period ≤ 14400
period_few p = elim (cases_lt 14400 p.job.period) [
  | inl long ↦ absurd (omega (arith, period_divides p, mod-eq_of_lt long))
  | inr short ↦ omega (arith, short)
]

module _ (p : Plan) (v : ℕ) (member : get_or p.members v false ≡ true) (is : is_sub_task (at (nodes_of p) v) ≡ true) where
  pub due_early : deadline_of p.windows v ≤ 14400
  due_early =
      let within = leb-true p.job.deadline p.job.period (and_parts (leb 1 p.job.deadline) (leb p.job.deadline p.job.period) p.job.due).1 in
      omega (arith, p.timely v member is, within, period_few p)

  pub opens_early : offset_of p.windows v ≤ 14400
  opens_early = omega (arith, p.roomy v member is, due_early)

module _ (r : Resident) (row : List Bool) where
  -- those at the nodes below n
  abbrev pub reached_below : ℕ → List SubTask
  reached_below n = map (sub_task r.plan (seat_of r)) (filter (λ (t : Task). get_or row t.node false) (tasks_below r.plan (λ v. get_or r.plan.members v false && is_sub_task (at (nodes_of r.plan) v)) n))

  last_one : (v : ℕ) (a b : Bool) → get_or row v false ≡ b
      → map (sub_task r.plan (seat_of r)) (filter (λ (t : Task). get_or row t.node false) (cond a (task_at r.plan v ∷ []) [])) ≡ cond (a && b) (reached_at r v ∷ []) []
  last_one v false b is = refl
  last_one v true true is = rw is refl
  last_one v true false is = rw is refl

  one_more : (v : ℕ) → reached_below (v + 1) ≡ reached_below v ++ cond (is_reached r.plan row v) (reached_at r v ∷ []) []
  one_more v =
      let test : ℕ → Bool = λ u. get_or r.plan.members u false && is_sub_task (at (nodes_of r.plan) u) in
      let kept : Task → Bool = λ t. get_or row t.node false in
      let was = tasks_below r.plan test v in
      let here : List Task = cond (test v) (task_at r.plan v ∷ []) [] in
      ap reached_below (add-one v)
      ∙ (ap (map (sub_task r.plan (seat_of r))) (filter-append kept was here)
      ∙ (map-append (sub_task r.plan (seat_of r)) (filter kept was) (filter kept here)
      ∙ ap (λ l. reached_below v ++ l) (last_one v (test v) (get_or row v false) refl)))

  pub reached_on : (v : ℕ) → is_reached r.plan row v ≡ true → reached_below v ++ reached_at r v ∷ [] ≡ reached_below (v + 1)
  reached_on v is = sym (one_more v ∙ ap (λ b. reached_below v ++ cond b (reached_at r v ∷ []) []) is)

  pub reached_skip : (v : ℕ) → is_reached r.plan row v ≡ false → reached_below v ≡ reached_below (v + 1)
  reached_skip v is = sym (one_more v ∙ (ap (λ b. reached_below v ++ cond b (reached_at r v ∷ []) []) is ∙ append-nil (reached_below v)))
