-- The whole life of a board.
--   NeverLate rules s               a board that runs as s says, where each engine was served at least its supply so far, has had nothing late, and what is ready waits for nothing that is open
--   AllLate rules rs text           under every possible choice of the job of the text, every placement beside the residents rs has a run in which something is late
--   RefusedExactly rules s call a   a text that passes the questions before the last one of loading is refused by that one exactly if all its placements have a late run
--   Promised rules s entry t        the call is answered by the rules, and keeps both promises
--   Lives rules s history t         so does every call of the history, on a board that stands as s before it and as t after it
--   Said, said call                 a call by what it says, wherever its text lies
--   LifeDetermined                  by lawful rules, the calls of a history on a new board determine what comes of each
use Rattle.std.specs.Prelude.{◌≡◌, ◌↔◌, ℕ, List, [], ◌∷◌, length, map}
use Rattle.board.specs.declared.refusal.Refusal.TheVariants.{NoPlacement}
use Rattle.board.specs.Loading.{Comes, SomePossible}
use Rattle.board.specs.Placing.{Rules}
use Rattle.life.specs.declared.call.Answer.{Answer}
use Rattle.life.specs.declared.call.Answer.TheVariants.{Refused}
use Rattle.life.specs.declared.call.Call.{Call}
use Rattle.life.specs.declared.call.Call.TheVariants.{Arrive, Load, Start, Stop, Tick, Unload}
use Rattle.life.specs.declared.call.Entry.{Entry}
use Rattle.life.specs.Answered.{Answered}
use Rattle.life.specs.Standing.{running, Standing, state_of, stopped, total_of}
use Rattle.resident.specs.declared.resident.Resident.{Resident}
use Rattle.runs.specs.Events.{Event}
use Rattle.runs.specs.Runs.{masks, OnTime, Supplied}
use Rattle.seated.specs.Placement.{LawfulRules, MustRefuse}
use Rattle.seated.specs.Waits.{InOrder}
use Rattle.task.specs.declared.job.Job.{Job}
use Rattle.text.specs.JobText.{Reads}

pub record AllInTime (rs : List Resident) (events : List Event) : Type 0 where
  pub on_time : OnTime (state_of rs events)
  pub in_order : InOrder rs (state_of rs events)

abbrev pub NeverLate : Rules → Standing → Type 0
NeverLate rules (stopped rs l) = Unit {0}
NeverLate rules (running rs l events) = Supplied (length rules.tags) rules.supply (masks events) → AllInTime rs events

abbrev pub AllLate : Rules → List Resident → List ℕ → Type 0
AllLate rules rs text = (j : Job) → Reads text j → MustRefuse rules rs j

abbrev pub RefusedExactly : Rules → Standing → Call → Answer → Type 0
RefusedExactly rules (stopped rs l) (Load text) a = (j : Job) → Comes text.now rs j → SomePossible j → (a ≡ Refused NoPlacement) ↔ AllLate rules rs text.now
RefusedExactly rules (stopped rs l) (Unload n) a = Unit {0}
RefusedExactly rules (stopped rs l) Start a = Unit {0}
RefusedExactly rules (stopped rs l) (Arrive n b) a = Unit {0}
RefusedExactly rules (stopped rs l) (Tick served done) a = Unit {0}
RefusedExactly rules (stopped rs l) Stop a = Unit {0}
RefusedExactly rules (running rs l es) call a = Unit {0}

pub record Promised (rules : Rules) (s : Standing) (entry : Entry) (t : Standing) : Type 0 where
  pub answered : Answered rules s entry.call entry.answer t
  pub late_total : entry.late_total ≡ total_of t
  pub never_late : NeverLate rules t
  pub refused_exactly : RefusedExactly rules s entry.call entry.answer

pub data Lives (rules : Rules) : Standing → List Entry → Standing → Type 0 where
  ends : {s : Standing} → Lives rules s [] s
  goes_on : {s t u : Standing} {entry : Entry} {history : List Entry}
      → Promised rules s entry t → Lives rules t history u → Lives rules s (entry ∷ history) u

pub data Said : Type 0 where
  loading : List ℕ → Said
  other : Call → Said

abbrev pub said : Call → Said
said (Load text) = loading text.now
said (Unload n) = other (Unload n)
said Start = other Start
said (Arrive n b) = other (Arrive n b)
said (Tick served done) = other (Tick served done)
said Stop = other Stop

abbrev pub LifeDetermined : Type 0
LifeDetermined =
    (rules : Rules) → LawfulRules rules
    → (one two : List Entry) (s t : Standing) → Lives rules (stopped [] rules.listing) one s → Lives rules (stopped [] rules.listing) two t
    → map (λ (e : Entry). said e.call) one ≡ map (λ (e : Entry). said e.call) two
    → (map (λ (e : Entry). e.answer) one ≡ map (λ (e : Entry). e.answer) two) × (map (λ (e : Entry). e.late_total) one ≡ map (λ (e : Entry). e.late_total) two)
