-- Each call that the rules answer keeps both promises, and leaves a board of which the same can be said again.
use Rattle.std.proofs.Common.{◌≡◌, ℕ, Bool, true, false, List, [], ◌∷◌, ◌++◌, length, sym, ap, subst, arith}
use Rattle.std.proofs.lemmas.List.{take_all}
use Rattle.board.specs.declared.refusal.Refusal.TheVariants.{NoPlacement}
use Rattle.board.specs.Determined.{Complete}
use Rattle.board.specs.Loading.{LoadRefused, Takes}
use Rattle.board.specs.Placing.{Rules, tellings}
use Rattle.life.specs.declared.call.Answer.{Answer}
use Rattle.life.specs.declared.call.Answer.TheVariants.{Loaded, NotTaken, Refused}
use Rattle.life.specs.declared.call.Call.{Call}
use Rattle.life.specs.declared.call.Call.TheVariants.{Arrive, Load, Start, Stop, Tick, Unload}
use Rattle.life.specs.Answered.{Answered, arrives, loads, not_taken, refuses_arrival, refuses_load, refuses_tick, refuses_unload, starts, stops, taken, ticks, unloads}
use Rattle.life.specs.declared.call.Entry.{Entry}
use Rattle.life.specs.Lives.{AllLate, ends, goes_on, Lives, NeverLate, Promised, RefusedExactly}
use Rattle.life.proofs.Questions.{last_question}
use Rattle.life.specs.Standing.{at, Listing, running, Standing, state_of, stopped, total_of}
use Rattle.order.specs.Listing.{EachOnce}
use Rattle.resident.specs.declared.resident.Resident.{Resident}
use Rattle.runs.specs.Events.{Event}
use Rattle.runs.specs.Runs.{masks, OnTime, Supplied}
use Rattle.seated.specs.Lasting.{Placed}
use Rattle.seated.specs.Placement.{LawfulRules}
use Rattle.seated.specs.Waits.{InOrder}
use Rattle.seated.proofs.Theorems.{never_late_on_board, refused_exactly, stays_placed}

-- what can be said of a board between two calls
abbrev pub Sound : Rules → Standing → Type 0
Sound rules (stopped rs l) = Placed rules rs × Complete (at rules l)
Sound rules (running rs l es) = Placed rules rs × Complete (at rules l)

-- what an order lists after it was told of parts is complete too
told_complete : (rules : Rules) (l told : Listing) (ts : List (ℕ × ℕ)) → Complete (at rules l) → ((us : List (ℕ × ℕ)) → told us ≡ l (ts ++ us)) → Complete (at rules told)
told_complete rules l told ts complete is us g load = subst (λ (f : List ℕ → ℕ → List ℕ → List ℕ). EachOnce rules.tags g (f rules.tags g load)) (sym (is us)) (complete (ts ++ us) g load)

-- by the rules that a board goes by after tellings
lawful_at : (rules : Rules) → LawfulRules rules → (l : Listing) → Complete (at rules l) → LawfulRules (at rules l)
lawful_at rules lawful l complete = record { supply = lawful.supply; missing = lawful.missing; slack = lawful.slack; complete = complete }

module _ (rules : Rules) (lawful : LawfulRules rules) where
  gains : (rs after : List Resident) (l told : Listing) (text : List ℕ) (n : ℕ) → Complete (at rules l) → Placed rules rs → Takes (at rules l) rs text n after told → Placed rules after
  gains rs after l told text n complete placed takes = (stays_placed (at rules l) (lawful_at rules lawful l complete)).loaded rs text n after told takes placed

  on_time : (rs : List Resident) (es : List Event) → Placed rules rs → Supplied (length rules.tags) rules.supply (masks es) → OnTime (state_of rs es) × InOrder rs (state_of rs es)
  on_time rs es placed supplied =
      subst (λ (fs : List Event). OnTime (state_of rs fs) × InOrder rs (state_of rs fs)) (take_all (length es) es (omega arith)) (never_late_on_board rules lawful rs placed es supplied (length es))

  all_late : (rs : List Resident) (l : Listing) (text : List ℕ) → Complete (at rules l) → Placed rules rs → LoadRefused (at rules l) rs text NoPlacement → AllLate rules rs text
  all_late rs l text complete placed refused = (refused_exactly (at rules l) (lawful_at rules lawful l complete) rs placed text).rightly refused

  not_all_late : (rs after : List Resident) (l told : Listing) (text : List ℕ) (n : ℕ) → Complete (at rules l) → Placed rules rs → Takes (at rules l) rs text n after told → AllLate rules rs text → ⊥
  not_all_late rs after l told text n complete placed takes late =
      (refused_exactly (at rules l) (lawful_at rules lawful l complete) rs placed text).only takes.job takes.loaded (late takes.job.plan.job takes.loaded.comes.reads)

  pub never_late : (s : Standing) → Sound rules s → NeverLate rules s
  never_late (stopped rs l) sound = tt
  never_late (running rs l es) sound = λ supplied. let (a, b) = on_time rs es sound.0 supplied in record { on_time = a; in_order = b }

  pub stays : (s t : Standing) (call : Call) (answer : Answer) → Sound rules s → Answered rules s call answer t → Sound rules t
  stays s t call answer sound (loads {rs} {after} {l} {told} {text} {n} takes) =
      (gains rs after l told text.now n sound.1 sound.0 takes, told_complete rules l told (tellings takes.job) sound.1 takes.told)
  stays s t call answer sound (refuses_load f) = sound
  stays s t call answer sound (unloads {rs} {l} {n} some) = ((stays_placed rules lawful).unloaded rs n sound.0, sound.1)
  stays s t call answer sound (refuses_unload f) = sound
  stays s t call answer sound starts = sound
  stays s t call answer sound (arrives g) = sound
  stays s t call answer sound (refuses_arrival f) = sound
  stays s t call answer sound (ticks g long r n) = sound
  stays s t call answer sound (refuses_tick f) = sound
  stays s t call answer sound stops = sound
  stays s t call answer sound (not_taken refused) = sound

  untaken : (s : Standing) (call : Call) → taken s call ≡ false → RefusedExactly rules s call NotTaken
  untaken (stopped rs l) (Load text) refused = absurd (let z : ◌≡◌ {A = Bool} false true = sym refused in cc)
  untaken (stopped rs l) (Unload n) refused = tt
  untaken (stopped rs l) Start refused = tt
  untaken (stopped rs l) (Arrive n b) refused = tt
  untaken (stopped rs l) (Tick served done) refused = tt
  untaken (stopped rs l) Stop refused = tt
  untaken (running rs l es) call refused = tt

  pub exactly : (s t : Standing) (call : Call) (answer : Answer) → Sound rules s → Answered rules s call answer t → RefusedExactly rules s call answer
  exactly s t call answer sound (loads {rs} {after} {l} {told} {text} {n} takes) = λ j comes some.
      ((λ is. absurd (let z : Loaded n ≡ Refused NoPlacement = is in cc)), (λ late. absurd (not_all_late rs after l told text.now n sound.1 sound.0 takes late)))
  exactly s t call answer sound (refuses_load {rs} {l} {text} {f} refused) = λ j comes some.
      let is = last_question (at rules l) rs text.now j comes some f refused in
      ((λ _. all_late rs l text.now sound.1 sound.0 (subst (LoadRefused (at rules l) rs text.now) is refused)), (λ _. ap Refused is))
  exactly s t call answer sound (unloads some) = tt
  exactly s t call answer sound (refuses_unload f) = tt
  exactly s t call answer sound starts = tt
  exactly s t call answer sound (arrives g) = tt
  exactly s t call answer sound (refuses_arrival f) = tt
  exactly s t call answer sound (ticks g long r n) = tt
  exactly s t call answer sound (refuses_tick f) = tt
  exactly s t call answer sound stops = tt
  exactly s t call answer sound (not_taken refused) = untaken s call refused

-- a new board
pub new_sound : (rules : Rules) → LawfulRules rules → Sound rules (stopped [] rules.listing)
new_sound rules lawful = ((stays_placed rules lawful).empty, lawful.complete)

-- what a call promises, where the rules answer it
pub promised : (rules : Rules) → LawfulRules rules → (s t : Standing) (entry : Entry) → Sound rules s → Answered rules s entry.call entry.answer t → entry.late_total ≡ total_of t → Promised rules s entry t
promised rules lawful s t entry sound answered total = record {
  answered = answered;
  late_total = total;
  never_late = never_late rules lawful t (stays rules lawful s t entry.call entry.answer sound answered);
  refused_exactly = exactly rules lawful s t entry.call entry.answer sound answered;
}

-- a history, and one more call
pub one_more : (rules : Rules) (s t u : Standing) (history : List Entry) (entry : Entry) → Lives rules s history t → Promised rules t entry u → Lives rules s (history ++ entry ∷ []) u
one_more rules s t u history entry ends last = goes_on last ends
one_more rules s t u history entry (goes_on first rest) last = goes_on first (one_more rules _ t u _ entry rest last)
