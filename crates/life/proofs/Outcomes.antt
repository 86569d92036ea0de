-- What can come of a call, by the standing and the call.
use Rattle.std.proofs.Common.{◌≡◌, ℕ, ◌+◌, Bool, true, false, List, [], ◌∷◌, ◌++◌, length, IsSome, Option, refl, sym, inl, inr, ◌⊎◌}
use Rattle.board.specs.declared.refusal.Refusal.{Refusal}
use Rattle.board.specs.Loading.{LoadRefused, Takes}
use Rattle.board.specs.Placing.{Rules}
use Rattle.board.specs.Residents.{others, resident_of}
use Rattle.board.specs.Unloading.{UnloadRefused}
use Rattle.dispatch.specs.declared.candidate.Next.{Next}
use Rattle.life.specs.declared.call.Answer.{Answer}
use Rattle.life.specs.declared.call.Answer.TheVariants.{Done, Loaded, NotTaken, Refused, Ticked}
use Rattle.life.specs.declared.call.Call.{Call}
use Rattle.life.specs.declared.call.Call.TheVariants.{Arrive, Load, Start, Stop, Tick, Unload}
use Rattle.life.specs.Answered.{Answered, arrives, loads, not_taken, refuses_arrival, refuses_load, refuses_tick, refuses_unload, starts, stops, taken, ticked, ticks, unloads}
use Rattle.running.specs.Arriving.{ArriveRefused}
use Rattle.running.specs.Ticking.{Ran, TickRefused}
use Rattle.life.specs.Standing.{at, Listing, running, Standing, state_of, stopped}
use Rattle.resident.specs.declared.resident.Resident.{Resident}
use Rattle.runs.specs.Events.{arrive, Event}
use Rattle.runs.specs.Runs.{Granted}

abbrev pub Kept : Answer → Standing → Answer → Standing → Type 0
Kept answer after a t = (a ≡ answer) × (t ≡ after)

abbrev pub Refuses : (Refusal → Type 0) → Standing → Answer → Standing → Type 0
Refuses P s a t = (f : Refusal) × P f × Kept (Refused f) s a t

pub record LoadedTo (rules : Rules) (rs : List Resident) (l : Listing) (text : List ℕ) (a : Answer) (t : Standing) : Type 0 where
  pub number : ℕ
  pub after : List Resident
  pub told : Listing
  pub takes : Takes (at rules l) rs text number after told
  pub kept : Kept (Loaded number) (stopped after told) a t

pub record TickedTo (rules : Rules) (rs : List Resident) (l : Listing) (es : List Event) (served done : ℕ) (a : Answer) (t : Standing) : Type 0 where
  pub late : ℕ
  pub ran : List (Option Next)
  pub granted : Granted (length rules.tags) (state_of rs es) (ticked served done)
  pub ran_long : length ran ≡ 16
  pub ran_is : Ran (state_of rs es) served ran
  pub late_is : (state_of rs (es ++ ticked served done ∷ [])).lates ≡ (state_of rs es).lates + late
  pub kept : Kept (Ticked ran late) (running rs l (es ++ ticked served done ∷ [])) a t

abbrev pub Outcome : Rules → Standing → Call → Answer → Standing → Type 0
Outcome rules (stopped rs l) (Load text) a t = LoadedTo rules rs l text.now a t ⊎ Refuses (LoadRefused (at rules l) rs text.now) (stopped rs l) a t
Outcome rules (stopped rs l) (Unload n) a t = (IsSome (resident_of rs n) × Kept Done (stopped (others rs n) l) a t) ⊎ Refuses (UnloadRefused rs n) (stopped rs l) a t
Outcome rules (stopped rs l) Start a t = Kept Done (running rs l []) a t
Outcome rules (stopped rs l) (Arrive n b) a t = Kept NotTaken (stopped rs l) a t
Outcome rules (stopped rs l) (Tick served done) a t = Kept NotTaken (stopped rs l) a t
Outcome rules (stopped rs l) Stop a t = Kept NotTaken (stopped rs l) a t
Outcome rules (running rs l es) (Load text) a t = Kept NotTaken (running rs l es) a t
Outcome rules (running rs l es) (Unload n) a t = Kept NotTaken (running rs l es) a t
Outcome rules (running rs l es) Start a t = Kept NotTaken (running rs l es) a t
Outcome rules (running rs l es) (Arrive n b) a t =
    (Granted (length rules.tags) (state_of rs es) (arrive n b) × Kept Done (running rs l (es ++ arrive n b ∷ [])) a t) ⊎ Refuses (ArriveRefused (state_of rs es) n b) (running rs l es) a t
Outcome rules (running rs l es) (Tick served done) a t = TickedTo rules rs l es served done a t ⊎ Refuses (TickRefused (length rules.tags) (state_of rs es) served done) (running rs l es) a t
Outcome rules (running rs l es) Stop a t = Kept Done (stopped rs l) a t

module _ (rules : Rules) where
  untaken : (s : Standing) (call : Call) → taken s call ≡ false → Outcome rules s call NotTaken s
  untaken (stopped rs l) (Load text) no' = absurd (let z : ◌≡◌ {A = Bool} false true = sym no' in cc)
  untaken (stopped rs l) (Unload n) no' = absurd (let z : ◌≡◌ {A = Bool} false true = sym no' in cc)
  untaken (stopped rs l) Start no' = absurd (let z : ◌≡◌ {A = Bool} false true = sym no' in cc)
  untaken (stopped rs l) (Arrive n b) no' = (refl, refl)
  untaken (stopped rs l) (Tick served done) no' = (refl, refl)
  untaken (stopped rs l) Stop no' = (refl, refl)
  untaken (running rs l es) (Load text) no' = (refl, refl)
  untaken (running rs l es) (Unload n) no' = (refl, refl)
  untaken (running rs l es) Start no' = (refl, refl)
  untaken (running rs l es) (Arrive n b) no' = absurd (let z : ◌≡◌ {A = Bool} false true = sym no' in cc)
  untaken (running rs l es) (Tick served done) no' = absurd (let z : ◌≡◌ {A = Bool} false true = sym no' in cc)
  untaken (running rs l es) Stop no' = absurd (let z : ◌≡◌ {A = Bool} false true = sym no' in cc)

  pub outcome : (s t : Standing) (call : Call) (a : Answer) → Answered rules s call a t → Outcome rules s call a t
  outcome s t call a (loads {rs} {after} {l} {told} {text} {n} takes) = inl (record { number = n; after = after; told = told; takes = takes; kept = (refl, refl) })
  outcome s t call a (refuses_load {rs} {l} {text} {f} refused) = inr (f, refused, (refl, refl))
  outcome s t call a (unloads some) = inl (some, (refl, refl))
  outcome s t call a (refuses_unload {rs} {l} {n} {f} refused) = inr (f, refused, (refl, refl))
  outcome s t call a starts = (refl, refl)
  outcome s t call a (arrives granted) = inl (granted, (refl, refl))
  outcome s t call a (refuses_arrival {rs} {l} {es} {n} {b} {f} refused) = inr (f, refused, (refl, refl))
  outcome s t call a (ticks {rs} {l} {es} {served} {done} {late} {ran} granted long is many) = inl (record { late = late; ran = ran; granted = granted; ran_long = long; ran_is = is; late_is = many; kept = (refl, refl) })
  outcome s t call a (refuses_tick {rs} {l} {es} {served} {done} {f} refused) = inr (f, refused, (refl, refl))
  outcome s t call a stops = (refl, refl)
  outcome s t call a (not_taken refused) = untaken s call refused
