-- What the residents of a board ask of an engine, as jobs of a run.
use Rattle.std.proofs.Common.{◌≡◌, ◌≢◌, ℕ, ◌+◌, ◌≤◌, true, Bool, List, [], ◌∷◌, ◌++◌, map, filter, refl, ap, inl, inr, arith}
use Rattle.std.specs.List.{AllByRecursion}
use Rattle.std.proofs.lemmas.Bool.{cases_Bool}
use Rattle.std.proofs.lemmas.List.{append-nil, map-append}
use Rattle.std.proofs.lemmas.List.Sums.{sum_by-append, sum_by-cons}
use Rattle.board.specs.Asked.{asked_by, asked_on}
use Rattle.plan.specs.declared.plan.Plan.{Plan}
use Rattle.plan.specs.Pattern.{part_pattern}
use Rattle.resident.specs.declared.resident.Resident.{Resident}
use Rattle.resident.specs.Seats.{has_part}
use Rattle.runs.specs.Job.{asked, Job, pattern_on}
use Rattle.seated.specs.Jobs.{job_at, job_of, jobs_of}
use Rattle.seated.specs.Lasting.{WellSeated}
use Rattle.seated.specs.Placement.{Placement}
use Rattle.seated.proofs.Patterns.{asks_nothing, asks_there}
use Rattle.seated.proofs.Seats.{asks_by_seats}
use Rattle.slack.specs.declared.rule.Position.{Position}
use Rattle.theory.specs.Demand.{demand, demand_of_all}
use Rattle.theory.specs.Pattern.{Pattern}

pub demand_one : (p : Pattern) (n : ℕ) → demand_of_all (p ∷ []) n ≡ demand p n
demand_one p n = omega (arith, sum_by-cons (λ i. demand i n) p [])

pub demand_cons : (p : Pattern) (ps : List Pattern) (n : ℕ) → demand_of_all (p ∷ ps) n ≡ demand p n + demand_of_all ps n
demand_cons p ps n = sum_by-cons (λ i. demand i n) p ps

pub demand_append : (ps qs : List Pattern) (n : ℕ) → demand_of_all (ps ++ qs) n ≡ demand_of_all ps n + demand_of_all qs n
demand_append ps qs n = sum_by-append (λ i. demand i n) ps qs

-- one resident more asks what its parts ask
pub asked_more : (rs : List Resident) (r : Resident) (e n : ℕ) → demand_of_all (asked_on (rs ++ r ∷ []) e) n ≡ demand_of_all (asked_on rs e) n + demand_of_all (asked_by r e) n
asked_more [] r e n = omega (arith, ap (λ l. demand_of_all l n) (append-nil (asked_by r e)))
asked_more (q ∷ rs) r e n = omega (
  arith,
  asked_more rs r e n,
  demand_append (asked_by q e) (asked_on (rs ++ r ∷ []) e) n,
  demand_append (asked_by q e) (asked_on rs e) n,
)

-- of those that stay, no more is asked
pub asked_less : (p : Resident → Bool) (rs : List Resident) (e n : ℕ) → demand_of_all (asked_on (filter p rs) e) n ≤ demand_of_all (asked_on rs e) n
asked_less p [] e n = omega arith
asked_less p (r ∷ rs) e n =
    let rec = asked_less p rs e n in
    let all = demand_append (asked_by r e) (asked_on rs e) n in
    elim (cases_Bool (p r)) [
      | inl y ↦ rw y (omega (arith, demand_append (asked_by r e) (asked_on (filter p rs) e) n))
      | inr no' ↦ rw no' (omega arith)
    ]

pub asked_push : (e : ℕ) (jobs : List Job) (j : Job) (n : ℕ) → asked e (jobs ++ j ∷ []) n ≡ asked e jobs n + demand (pattern_on e j) n
asked_push e jobs j n = omega (
  arith,
  ap (λ ps. demand_of_all ps n) (map-append (pattern_on e) jobs (j ∷ [])),
  demand_append (map (pattern_on e) jobs) (pattern_on e j ∷ []) n,
  demand_one (pattern_on e j) n,
)

module _ (tags : List ℕ) (local : Position → ℕ) (rs : List Resident) (each : AllByRecursion (WellSeated tags local) rs) where
  -- what the jobs ask of an engine is what the residents ask there
  pub asked_same : (e n : ℕ) → asked e (jobs_of rs) n ≡ demand_of_all (asked_on rs e) n
  asked_same e n = go rs each
    where
      go : (qs : List Resident) → AllByRecursion (WellSeated tags local) qs → asked e (jobs_of qs) n ≡ demand_of_all (asked_on qs e) n
      go [] a = refl
      go (q ∷ qs) a = omega (
        arith,
        go qs a.1,
        asks_by_seats q tags a.0.seats e n,
        demand_cons (pattern_on e (job_of q)) (map (pattern_on e) (jobs_of qs)) n,
        demand_append (asked_by q e) (asked_on qs e) n,
      )

  -- and with a job beside them, whose part of the tag g is placed there
  pub asked_beside : (p : Plan) (f : ℕ → ℕ) → Placement tags p f → (g : ℕ) → has_part p g ≡ true
      → (n : ℕ) → asked (f g) (jobs_of rs ++ job_at p f ∷ []) n ≡ demand_of_all (part_pattern p g ∷ asked_on rs (f g)) n
  asked_beside p f placement g has n = omega (
    arith,
    asked_push (f g) (jobs_of rs) (job_at p f) n,
    asked_same (f g) n,
    ap (λ q. demand q n) (asks_there p f (f g) tags placement g refl has),
    demand_cons (part_pattern p g) (asked_on rs (f g)) n,
  )

  -- where no part of it sits on an engine, it asks nothing more there
  pub asked_elsewhere : (p : Plan) (f : ℕ → ℕ) (e : ℕ) → ((g : ℕ) → has_part p g ≡ true → f g ≢ e)
      → (n : ℕ) → asked e (jobs_of rs ++ job_at p f ∷ []) n ≡ demand_of_all (asked_on rs e) n
  asked_elsewhere p f e none n = omega (arith, asked_push e (jobs_of rs) (job_at p f) n, asked_same e n, asks_nothing p f e none n)
