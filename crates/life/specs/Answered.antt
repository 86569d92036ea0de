-- What each call answers, and how the board stands after it.
--   taken s call                      whether a board that stands as s takes the call: arrivals, ticks and stops if it runs, and else loads, unloads and starts
--   arrival n b, ticked served done   an arrival of the job n with the branch number b, and a tick with these masks, as events of a run
--   Answered rules s call answer t    by the rules the call on a board that stands as s gets the answer, and then the board stands as t
use Rattle.std.specs.Prelude.{◌≡◌, ℕ, ◌+◌, Bool, true, false, List, [], ◌∷◌, ◌++◌, length, IsSome, Option}
use Rattle.std.specs.Borrow.{Bor}
use Rattle.board.specs.declared.refusal.Refusal.{Refusal}
use Rattle.board.specs.Loading.{LoadRefused, Takes}
use Rattle.board.specs.Placing.{Rules}
use Rattle.board.specs.Residents.{others, resident_of}
use Rattle.board.specs.Unloading.{UnloadRefused}
use Rattle.dispatch.specs.declared.candidate.Next.{Next}
use Rattle.dispatch.specs.Ticking.{masked}
use Rattle.life.specs.declared.call.Answer.{Answer}
use Rattle.life.specs.declared.call.Answer.TheVariants.{Done, Loaded, NotTaken, Refused, Ticked}
use Rattle.life.specs.declared.call.Call.{Call}
use Rattle.life.specs.declared.call.Call.TheVariants.{Arrive, Load, Start, Stop, Tick, Unload}
use Rattle.life.specs.Standing.{at, Listing, running, Standing, state_of, stopped}
use Rattle.resident.specs.declared.resident.Resident.{Resident}
use Rattle.running.specs.Arriving.{ArriveRefused}
use Rattle.running.specs.Ticking.{Ran, TickRefused}
use Rattle.runs.specs.Events.{arrive, Event, tick}
use Rattle.runs.specs.Runs.{Granted}

abbrev pub taken : Standing → Call → Bool
taken (stopped rs l) (Load text) = true
taken (stopped rs l) (Unload n) = true
taken (stopped rs l) Start = true
taken (stopped rs l) (Arrive n b) = false
taken (stopped rs l) (Tick served done) = false
taken (stopped rs l) Stop = false
taken (running rs l es) (Load text) = false
taken (running rs l es) (Unload n) = false
taken (running rs l es) Start = false
taken (running rs l es) (Arrive n b) = true
taken (running rs l es) (Tick served done) = true
taken (running rs l es) Stop = true

abbrev pub ticked : ℕ → ℕ → Event
ticked served done = tick (masked served) (masked done)

pub data Answered (rules : Rules) : Standing → Call → Answer → Standing → Type 0 where
  loads : {rs after : List Resident} {l told : Listing} {text : Bor (List ℕ)} {n : ℕ}
      → Takes (at rules l) rs text.now n after told
      → Answered rules (stopped rs l) (Load text) (Loaded n) (stopped after told)
  refuses_load : {rs : List Resident} {l : Listing} {text : Bor (List ℕ)} {f : Refusal}
      → LoadRefused (at rules l) rs text.now f
      → Answered rules (stopped rs l) (Load text) (Refused f) (stopped rs l)
  unloads : {rs : List Resident} {l : Listing} {n : ℕ}
      → IsSome (resident_of rs n)
      → Answered rules (stopped rs l) (Unload n) Done (stopped (others rs n) l)
  refuses_unload : {rs : List Resident} {l : Listing} {n : ℕ} {f : Refusal}
      → UnloadRefused rs n f
      → Answered rules (stopped rs l) (Unload n) (Refused f) (stopped rs l)
  starts : {rs : List Resident} {l : Listing}
      → Answered rules (stopped rs l) Start Done (running rs l [])
  arrives : {rs : List Resident} {l : Listing} {es : List Event} {n b : ℕ}
      → Granted (length rules.tags) (state_of rs es) (arrive n b)
      → Answered rules (running rs l es) (Arrive n b) Done (running rs l (es ++ arrive n b ∷ []))
  refuses_arrival : {rs : List Resident} {l : Listing} {es : List Event} {n b : ℕ} {f : Refusal}
      → ArriveRefused (state_of rs es) n b f
      → Answered rules (running rs l es) (Arrive n b) (Refused f) (running rs l es)
  ticks : {rs : List Resident} {l : Listing} {es : List Event} {served done late : ℕ} {ran : List (Option Next)}
      → Granted (length rules.tags) (state_of rs es) (ticked served done)
      → length ran ≡ 16
      → Ran (state_of rs es) served ran
      → (state_of rs (es ++ ticked served done ∷ [])).lates ≡ (state_of rs es).lates + late
      → Answered rules (running rs l es) (Tick served done) (Ticked ran late) (running rs l (es ++ ticked served done ∷ []))
  refuses_tick : {rs : List Resident} {l : Listing} {es : List Event} {served done : ℕ} {f : Refusal}
      → TickRefused (length rules.tags) (state_of rs es) served done f
      → Answered rules (running rs l es) (Tick served done) (Refused f) (running rs l es)
  stops : {rs : List Resident} {l : Listing} {es : List Event}
      → Answered rules (running rs l es) Stop Done (stopped rs l)
  not_taken : {s : Standing} {call : Call}
      → taken s call ≡ false
      → Answered rules s call NotTaken s
