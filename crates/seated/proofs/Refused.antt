-- A job is refused exactly where every placement of it could be late.
use Rattle.std.proofs.Common.{◌≡◌, ◌≢◌, ℕ, ◌<◌, List, [], ◌∷◌, ◌++◌, length, refl, sym, ap, subst, ◌∙◌, inl, inr, take_all, arith}
use Rattle.std.specs.List.{AllByRecursion}
use Rattle.std.proofs.lemmas.List.{map-append}
use Rattle.std.proofs.lemmas.List.Elements.{recursion_from_All}
use Rattle.board.specs.declared.refusal.Refusal.TheVariants.{NoPlacement}
use Rattle.board.specs.Determined.{SameJob}
use Rattle.board.specs.Loading.{Free, IsLoaded, LoadRefused}
use Rattle.board.specs.Placing.{FitsOn, Rules, Stuck}
use Rattle.computed.proofs.Asked.{known_part_pattern, known_tasks}
use Rattle.plan.specs.declared.plan.Plan.{Plan}
use Rattle.plan.specs.Part.{tagged}
use Rattle.plan.specs.Pattern.{part_pattern}
use Rattle.plan.specs.Plan.{IsPlan}
use Rattle.resident.specs.declared.resident.Resident.{Resident}
use Rattle.resident.specs.Resident.{number_of}
use Rattle.resident.specs.Seats.{has_part, some_task}
use Rattle.runs.specs.Events.{play, start}
use Rattle.runs.specs.Job.{Job as RunJob}
use Rattle.runs.proofs.LateWhenOverloaded.{fits_or_overloaded, late_when_overloaded}
use Rattle.seated.specs.Jobs.{job_at, job_of, jobs_of, seat_of}
use Rattle.seated.specs.Lasting.{Placed}
use Rattle.seated.specs.Placement.{LateRun, LawfulRules, MustRefuse, Placement}
use Rattle.seated.proofs.Asking.{asked_beside}
use Rattle.seated.proofs.Lasting.{loaded_lasts, loaded_seated}
use Rattle.seated.proofs.Seats.{seats_place}
use Rattle.seated.proofs.Sounding.{distinct_beside, engine_low, sound_beside}
use Rattle.seated.proofs.Timely.{on_time_and_in_order}
use Rattle.slack.specs.declared.rule.Position.{Position}
use Rattle.task.specs.declared.job.Job.{Job}
use Rattle.task.specs.declared.node.Node.{Node}
use Rattle.task.specs.declared.node.Numbering.TheVariants.{Choice}
use Rattle.task.specs.Flaws.{graph}
use Rattle.task.specs.Picks.{numbers}
use Rattle.text.specs.JobText.{Reads}
use Rattle.text.proofs.Only.{one_job}
use Rattle.window.specs.Path.{Possible}

-- two plans of one job under one choice ask the same
module _ (local : Position → ℕ) (c : ℕ) (j k : Job) (same : SameJob j k) (p q : Plan) (a : IsPlan local j c p) (b : IsPlan local k c q) where
  own : SameJob k k
  own = record { its_number = refl; its_period = refl; its_deadline = refl; its_nodes = refl }

  has_same : (g : ℕ) → has_part p g ≡ has_part q g
  has_same g = ap some_task
      (known_tasks local k.number k.period k.deadline (graph k) j same c p a (tagged g) ∙ sym (known_tasks local k.number k.period k.deadline (graph k) k own c q b (tagged g)))

  asks_same : (g : ℕ) → part_pattern p g ≡ part_pattern q g
  asks_same g = known_part_pattern local k.number k.period k.deadline (graph k) j same c p a g ∙ sym (known_part_pattern local k.number k.period k.deadline (graph k) k own c q b g)

module _ (rules : Rules) (lawful : LawfulRules rules) (rs : List Resident) (placed : Placed rules rs) where
  -- a part that fits on no engine of its tag overloads the one that it is put on
  pub stuck_is_late : (j k : Job) → SameJob j k → (c : ℕ) → AllByRecursion (λ r. number_of r ≢ j.number) rs → Stuck rules rs k c
      → (p : Plan) (f : ℕ → ℕ) → IsPlan rules.local j c p → Placement rules.tags p f → LateRun rules (jobs_of rs ++ job_at p f ∷ [])
  stuck_is_late j k same c free stuck p f planned placement =
      let g = stuck.tag in
      let has = has_same rules.local c j k same p stuck.plan planned stuck.planned g ∙ stuck.has in
      let engines = length rules.tags in
      let jobs : List RunJob = jobs_of rs ++ job_at p f ∷ [] in
      let tag = placement g has in
      let sound = sound_beside rules.tags rules.local rs placed.each p f placement in
      let distinct = distinct_beside rs placed.numbers_differ p f (subst (λ (i : Job). AllByRecursion (λ r. number_of r ≢ i.number) rs) (sym planned.its_job) free) in
      elim (fits_or_overloaded engines rules.supply jobs (f g) (lawful.supply (f g)) sound) [
        | inl fits ↦
            let beside : FitsOn rules.supply rs (f g) (part_pattern p g) = λ n. omega (arith, asked_beside rules.tags rules.local rs placed.each p f placement g has n, fits n) in
            absurd (stuck.nowhere (f g) tag (subst (FitsOn rules.supply rs (f g)) (asks_same rules.local c j k same p stuck.plan planned stuck.planned g) beside))
        | inr over ↦
            let late = late_when_overloaded engines rules.supply jobs (λ e _. lawful.supply e) sound distinct (f g) over.0 (engine_low rules.tags (f g) g tag) over.2 in
            (late.0, late.1, late.3)
      ]

  module _ (text : List ℕ) where
    pub refused_rightly : LoadRefused rules rs text NoPlacement → (j : Job) → Reads text j → MustRefuse rules rs j
    refused_rightly refused j reads c low possible p f planned placement =
        let k = refused.0 in
        let comes = refused.1 in
        let same = one_job text k j comes.reads reads in
        let low_there = subst (λ (ns : List Node). c < numbers Choice ns) same.its_nodes low in
        let possible_there = subst (λ (ns : List Node). Possible ns c k.deadline) same.its_nodes (subst (λ (d : ℕ). Possible (graph j) c d) same.its_deadline possible) in
        let free = recursion_from_All (λ r. number_of r ≢ j.number) rs (subst (Free rs) (sym same.its_number) comes.free) in
        stuck_is_late j k same c free (refused.3 c low_there possible_there) p f planned placement

    -- where a job is loaded, it sits so that no run is late
    pub refused_only : (r : Resident) → IsLoaded rules rs text r → MustRefuse rules rs r.plan.job → ⊥
    refused_only r loaded must =
        let well = loaded_seated rules lawful rs text r loaded in
        let late = must r.plan.choice loaded.places.is_choice loaded.places.possible r.plan (seat_of r) loaded.places.placed.planned (seats_place r rules.tags well.seats) in
        let after = loaded_lasts rules lawful rs text placed r loaded in
        let es = late.0 in
        let timely = on_time_and_in_order rules lawful (rs ++ r ∷ []) after es late.1.supplied (length es) in
        let all : jobs_of (rs ++ r ∷ []) ≡ jobs_of rs ++ job_of r ∷ [] = map-append job_of rs (r ∷ []) in
        let none : (play (start (jobs_of rs ++ job_of r ∷ [])) es).lates ≡ 0
        = subst (λ js. (play (start js) es).lates ≡ 0) all (subst (λ fs. (play (start (jobs_of (rs ++ r ∷ []))) fs).lates ≡ 0) (take_all (length es) es (omega arith)) timely.0.none_counted) in
        omega (arith, late.2, none)
