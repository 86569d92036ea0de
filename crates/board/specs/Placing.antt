-- Placing a job on the engines of a board, beside its residents.
--   Rules                          what the placing goes by: the tags of the engines, their supply, the slack rule, and the order of engines after tellings
--   FitsOn supply rs e p           on the engine e, what asks by the pattern p fits beside the residents rs
--   ShortOn supply rs e p n        in n ticks the engine e serves too little for what asks by the pattern p beside the residents rs
--   KnownStuck rules rs p known    some part of the plan p asks too much of each engine e of its tag, in known e ticks
--   tried rules rs g               the engines of the tag g, in the order in which they are tried
--   FirstFit rules rs p es e       e is the first of the engines es on which p fits
--   RoomsOn supply rs rooms        each of the rooms is what the residents rs leave on the engine at its place, if it is there
--   Sits rules rs p s              the seat s of the plan p is on the first engine on which its part fits
--   IsPlaced rules rs j c r        r is the job j under the choice c, each part on the first engine on which it fits
--   Stuck rules rs j c             under the choice c some part of the job j fits on no engine of its tag
--   CannotBePlaced rules rs j c    the choice c is not possible, or some part is stuck
--   Places rules rs j r            r is the job j under the first possible choice that can be placed
--   tellings r                     the tag and the engine of each part of r, by rising tag
use Rattle.std.specs.Prelude.{◌≡◌, ℕ, ◌<◌, true, List, [], ◌∷◌, map, Option, Some, slice_get}
use Rattle.std.specs.List.{All}
use Rattle.board.specs.Asked.{asked_on, claims_on, loads}
use Rattle.engine.specs.Roster.{tag_of}
use Rattle.few.specs.Few.{items}
use Rattle.fit.specs.declared.room.Room.{Room}
use Rattle.fit.specs.Fits.{Fits}
use Rattle.fit.specs.Room.{Leaves}
use Rattle.plan.specs.declared.plan.Plan.{Plan}
use Rattle.plan.specs.Pattern.{part_pattern}
use Rattle.plan.specs.Plan.{IsPlan}
use Rattle.resident.specs.declared.resident.Resident.{Resident}
use Rattle.resident.specs.declared.resident.Seat.{Seat}
use Rattle.resident.specs.Seats.{has_part}
use Rattle.slack.specs.declared.rule.Position.{Position}
use Rattle.task.specs.declared.job.Job.{Job}
use Rattle.task.specs.declared.node.Numbering.TheVariants.{Choice}
use Rattle.task.specs.Flaws.{graph}
use Rattle.task.specs.Picks.{numbers}
use Rattle.theory.specs.Demand.{demand_of_all}
use Rattle.theory.specs.Pattern.{Pattern}
use Rattle.window.specs.Path.{Possible}

pub record Rules : Type 0 where
  pub tags : List ℕ
  pub supply : ℕ → ℕ → ℕ
  pub local : Position → ℕ
  pub listing : List (ℕ × ℕ) → List ℕ → ℕ → List ℕ → List ℕ

abbrev pub FitsOn : (ℕ → ℕ → ℕ) → List Resident → ℕ → Pattern → Type 0
FitsOn supply rs e p = Fits (supply e) (p ∷ asked_on rs e)

abbrev pub ShortOn : (ℕ → ℕ → ℕ) → List Resident → ℕ → Pattern → ℕ → Type 0
ShortOn supply rs e p n = supply e n < demand_of_all (p ∷ asked_on rs e) n

pub record KnownStuck (rules : Rules) (rs : List Resident) (p : Plan) (known : ℕ → ℕ) : Type 0 where
  pub tag : ℕ
  pub low : tag < 8
  pub has : has_part p tag ≡ true
  pub short : (e : ℕ) → tag_of rules.tags e ≡ Some tag → ShortOn rules.supply rs e (part_pattern p tag) (known e)

abbrev pub tried : Rules → List Resident → ℕ → List ℕ
tried rules rs g = rules.listing [] rules.tags g (loads rs)

pub record FirstFit (rules : Rules) (rs : List Resident) (p : Pattern) (es : List ℕ) (e : ℕ) : Type 0 where
  pub place : ℕ
  pub there : slice_get es place ≡ Some e
  pub fits : FitsOn rules.supply rs e p
  pub none_before : (k d : ℕ) → k < place → slice_get es k ≡ Some d → FitsOn rules.supply rs d p → ⊥

abbrev pub RoomsOn : (ℕ → ℕ → ℕ) → List Resident → List (Option Room) → Type 0
RoomsOn supply rs rooms = (e : ℕ) (room : Room) → slice_get rooms e ≡ Some (Some room) → Leaves (supply e) (claims_on rs e) room

abbrev pub Sits : Rules → List Resident → Plan → Seat → Type 0
Sits rules rs p s = FirstFit rules rs (part_pattern p s.tag) (tried rules rs s.tag) s.engine

pub record IsPlaced (rules : Rules) (rs : List Resident) (j : Job) (c : ℕ) (r : Resident) : Type 0 where
  pub planned : IsPlan rules.local j c r.plan
  pub sits : All (Sits rules rs r.plan) (items r.seats)

pub record Stuck (rules : Rules) (rs : List Resident) (j : Job) (c : ℕ) : Type 0 where
  pub plan : Plan
  pub planned : IsPlan rules.local j c plan
  pub tag : ℕ
  pub has : has_part plan tag ≡ true
  pub nowhere : (e : ℕ) → tag_of rules.tags e ≡ Some tag → FitsOn rules.supply rs e (part_pattern plan tag) → ⊥

abbrev pub CannotBePlaced : Rules → List Resident → Job → ℕ → Type 0
CannotBePlaced rules rs j c = Possible (graph j) c j.deadline → Stuck rules rs j c

pub record Places (rules : Rules) (rs : List Resident) (j : Job) (r : Resident) : Type 0 where
  pub is_choice : r.plan.choice < numbers Choice (graph j)
  pub possible : Possible (graph j) r.plan.choice j.deadline
  pub placed : IsPlaced rules rs j r.plan.choice r
  pub none_before : (c : ℕ) → c < r.plan.choice → CannotBePlaced rules rs j c

abbrev pub tellings : Resident → List (ℕ × ℕ)
tellings r = map (λ (s : Seat). (s.tag, s.engine)) (items r.seats)
