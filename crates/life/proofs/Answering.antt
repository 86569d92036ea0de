-- Each call of the code is answered by the rules.
use Rattle.std.proofs.Common.{◌≡◌, ℕ, ◌+◌, Bool, true, false, List, [], ◌∷◌, ◌++◌, length, IsSome, Option, refl, sym, ap, subst, ◌∙◌}
use Rattle.std.specs.Borrow.{Bor}
use Rattle.board.specs.declared.board.Board.{Board}
use Rattle.board.specs.declared.refusal.Refusal.{Refusal}
use Rattle.board.specs.Loading.{LoadRefused, Takes}
use Rattle.board.specs.Placing.{Rules}
use Rattle.board.specs.Residents.{jobs, others, resident_of}
use Rattle.board.specs.Unloading.{UnloadRefused}
use Rattle.dispatch.specs.declared.candidate.Next.{Next}
use Rattle.dispatch.specs.Kept.{kept}
use Rattle.dispatch.specs.KeptLaws.{kept_granted, kept_start}
use Rattle.life.specs.declared.call.Answer.{Answer}
use Rattle.life.specs.declared.call.Answer.TheVariants.{Done, Loaded, NotTaken, Refused, Ticked}
use Rattle.life.specs.declared.call.Call.{Call}
use Rattle.life.specs.declared.call.Call.TheVariants.{Arrive, Load, Start, Stop, Tick, Unload}
use Rattle.life.specs.Answered.{Answered, arrives, loads, not_taken, refuses_arrival, refuses_load, refuses_tick, refuses_unload, starts, stops, taken, ticked, ticks, unloads}
use Rattle.life.specs.declared.any_board.AnyBoard.{AnyBoard as Code}
use Rattle.life.specs.declared.any_board.AnyBoard.TheVariants.{Running, Stopped}
use Rattle.life.specs.InStep.{InStep, stands, turns}
use Rattle.life.specs.Standing.{at, Listing, running, Standing, state_of, stopped}
use Rattle.life.proofs.Keeping.{arrival_refused, keeps_arrival, keeps_tick, ran_kept, tick_refused}
use Rattle.resident.specs.declared.resident.Resident.{Resident}
use Rattle.running.specs.Arriving.{ArriveRefused}
use Rattle.running.specs.Ticking.{Ran, TickRefused}
use Rattle.running.specs.declared.running.Running.{Running as RunningBoard}
use Rattle.running.specs.View.{view}
use Rattle.runs.specs.Events.{arrive, Event, granted, start, step}
use Rattle.runs.specs.Runs.{Granted}
use Rattle.runs.specs.State.{State}
use Rattle.seated.specs.Jobs.{jobs_of}
use Rattle.std.specs.List.{list_any}

module _ (rules : Rules) (call : Call) where
  called : {s t : Standing} {a : Answer} (k : Call) → call ≡ k → Answered rules s k a t → Answered rules s call a t
  called {s} {t} {a} k is answered = subst (λ (x : Call). Answered rules s x a t) (sym is) answered

  pub load_granted : {rs after : List Resident} {l told : Listing} {n : ℕ} (text : Bor (List ℕ)) → call ≡ Load text → Takes (at rules l) rs text.now n after told
      → Answered rules (stopped rs l) call (Loaded n) (stopped after told)
  load_granted text is takes = called (Load text) is (loads takes)

  module _ {P R O : Type 0} (listing : O → Listing) (old new : Board P R O) where
    stays : {s : Standing} {a : Answer} → new ≡ old → Answered rules s call a (stopped (jobs old.residents) (listing old.order)) → Answered rules s call a (stopped (jobs new.residents) (listing new.order))
    stays {s} {a} same answered = subst (λ (b : Board P R O). Answered rules s call a (stopped (jobs b.residents) (listing b.order))) (sym same) answered

    pub load_refused : {f : Refusal} (text : Bor (List ℕ)) → call ≡ Load text → LoadRefused (at rules (listing old.order)) (jobs old.residents) text.now f → new ≡ old
        → Answered rules (stopped (jobs old.residents) (listing old.order)) call (Refused f) (stopped (jobs new.residents) (listing new.order))
    load_refused text is refused same = stays same (called (Load text) is (refuses_load refused))

    pub unload_granted : (n : ℕ) → call ≡ Unload n → IsSome (resident_of (jobs old.residents) n) → jobs new.residents ≡ others (jobs old.residents) n → new.order ≡ old.order
        → Answered rules (stopped (jobs old.residents) (listing old.order)) call Done (stopped (jobs new.residents) (listing new.order))
    unload_granted n is found left order =
        subst (λ (o : O). Answered rules (stopped (jobs old.residents) (listing old.order)) call Done (stopped (jobs new.residents) (listing o))) (sym order)
        (subst (λ (rs : List Resident). Answered rules (stopped (jobs old.residents) (listing old.order)) call Done (stopped rs (listing old.order))) (sym left) (called (Unload n) is (unloads found)))

    pub unload_refused : {f : Refusal} (n : ℕ) → call ≡ Unload n → UnloadRefused (jobs old.residents) n f → new ≡ old
        → Answered rules (stopped (jobs old.residents) (listing old.order)) call (Refused f) (stopped (jobs new.residents) (listing new.order))
    unload_refused n is refused same = stays same (called (Unload n) is (refuses_unload refused))

  pub stopped_takes_not : {rs : List Resident} {l : Listing} → turns call ≡ false → ((text : Bor (List ℕ)) → call ≡ Load text → ⊥) → ((n : ℕ) → call ≡ Unload n → ⊥)
      → Answered rules (stopped rs l) call NotTaken (stopped rs l)
  stopped_takes_not {rs} {l} stays no_load no_unload = not_taken (left call stays no_load no_unload) where
    left : (k : Call) → turns k ≡ false → ((text : Bor (List ℕ)) → k ≡ Load text → ⊥) → ((n : ℕ) → k ≡ Unload n → ⊥) → taken (stopped rs l) k ≡ false
    left (Load text) st nl nu = absurd (nl text refl)
    left (Unload n) st nl nu = absurd (nu n refl)
    left Start st nl nu = absurd (let z : ◌≡◌ {A = Bool} false true = sym st in cc)
    left (Arrive n b) st nl nu = refl
    left (Tick served done) st nl nu = refl
    left Stop st nl nu = absurd (let z : ◌≡◌ {A = Bool} false true = sym st in cc)

  pub running_takes_not : {rs : List Resident} {l : Listing} {es : List Event} → turns call ≡ false → ((n b : ℕ) → call ≡ Arrive n b → ⊥) → ((served done : ℕ) → call ≡ Tick served done → ⊥)
      → Answered rules (running rs l es) call NotTaken (running rs l es)
  running_takes_not {rs} {l} {es} stays no_arrive no_tick = not_taken (left call stays no_arrive no_tick) where
    left : (k : Call) → turns k ≡ false → ((n b : ℕ) → k ≡ Arrive n b → ⊥) → ((served done : ℕ) → k ≡ Tick served done → ⊥) → taken (running rs l es) k ≡ false
    left (Load text) st na nt = refl
    left (Unload n) st na nt = refl
    left Start st na nt = absurd (let z : ◌≡◌ {A = Bool} false true = sym st in cc)
    left (Arrive n b) st na nt = absurd (na n b refl)
    left (Tick served done) st na nt = absurd (nt served done refl)
    left Stop st na nt = absurd (let z : ◌≡◌ {A = Bool} false true = sym st in cc)

-- calls on a board that runs, and keeps what it has to
module _ (rules : Rules) (rs : List Resident) (l : Listing) (es : List Event) (was now : State) (keeps : was ≡ kept (state_of rs es)) where
  abbrev pub Goes : Call → Answer → Type 0
  Goes call a = (fs : List Event) × Answered rules (running rs l es) call a (running rs l fs) × (now ≡ kept (state_of rs fs))

  pub arrival_granted : (n b : ℕ) → Granted (length rules.tags) (state_of rs es) (arrive n b) → now ≡ kept (step was (arrive n b)) → Goes (Arrive n b) Done
  arrival_granted n b grants is = (es ++ arrive n b ∷ [], arrives grants, keeps_arrival rs es was now keeps n b is)

  pub arrival_not : (n b : ℕ) (f : Refusal) → ArriveRefused was n b f → now ≡ was → Goes (Arrive n b) (Refused f)
  arrival_not n b f refused same = (es, refuses_arrival (arrival_refused (state_of rs es) n b f (subst (λ (st : State). ArriveRefused st n b f) keeps refused)), same ∙ keeps)

  pub tick_done : (served done late : ℕ) (ran : List (Option Next)) → Granted (length rules.tags) (state_of rs es) (ticked served done) → length ran ≡ 16 → Ran was served ran
      → now ≡ step was (ticked served done) → now.lates ≡ was.lates + late → Goes (Tick served done) (Ticked ran late)
  tick_done served done late ran grants long is steps late_is =
      let after = keeps_tick rs es was now keeps served done steps in
      let now_lates : now.lates ≡ (state_of rs (es ++ ticked served done ∷ [])).lates = ap (λ (st : State). st.lates) after in
      let was_lates : was.lates ≡ (state_of rs es).lates = ap (λ (st : State). st.lates) keeps in (
        es ++ ticked served done ∷ [],
        ticks grants long (ran_kept (state_of rs es) served ran (subst (λ (st : State). Ran st served ran) keeps is)) (sym now_lates ∙ late_is ∙ ap (λ n. n + late) was_lates),
        after,
      )

  pub tick_not : (served done : ℕ) (f : Refusal) → TickRefused (length rules.tags) was served done f → now ≡ was → Goes (Tick served done) (Refused f)
  tick_not served done f refused same =
      (es, refuses_tick (tick_refused (state_of rs es) (length rules.tags) served done f (subst (λ (st : State). TickRefused (length rules.tags) st served done f) keeps refused)), same ∙ keeps)

  pub arrival_grants : (engines n b : ℕ) → list_any (granted was.clock n b) was.slots ≡ true → Granted engines (state_of rs es) (arrive n b)
  arrival_grants engines n b is =
      let st = state_of rs es in
      sym (kept_granted st.clock n b st.slots) ∙ ap (λ (x : State). list_any (granted x.clock n b) x.slots) (sym keeps) ∙ is

-- starting and stopping
module _ {P R O : Type 0} (rules : Rules) (listing : O → Listing) (self : Code P R O) (call : Call) where
  abbrev pub Turns : Answer → Code P R O → List Event → Type 0
  Turns a after es = (fs : List Event) × Answered rules (stands listing self es) call a (stands listing after fs) × InStep after fs

  pub turn_start : (b : Board P R O) (r : RunningBoard P R O) (es : List Event) → self ≡ Stopped b → call ≡ Start → view r ≡ start (jobs_of (jobs b.residents)) → r.board ≡ b → Turns Done (Running r) es
  turn_start b r es is started begins board = (
    [],
    subst (λ (s : Code P R O). Answered rules (stands listing s es) call Done (running (jobs r.board.residents) (listing r.board.order) [])) (sym is)
        (subst (λ (k : Call). Answered rules (stopped (jobs b.residents) (listing b.order)) k Done (running (jobs r.board.residents) (listing r.board.order) [])) (sym started)
        (subst (λ (x : Board P R O). Answered rules (stopped (jobs b.residents) (listing b.order)) Start Done (running (jobs x.residents) (listing x.order) [])) (sym board) starts)),
    begins ∙ sym (kept_start (jobs_of (jobs b.residents))) ∙ ap (λ (x : Board P R O). kept (state_of (jobs x.residents) [])) (sym board),
  )

  pub turn_stop : (r : RunningBoard P R O) (b : Board P R O) (es : List Event) → self ≡ Running r → call ≡ Stop → b ≡ r.board → Turns Done (Stopped b) es
  turn_stop r b es is stopping board = (
    [],
    subst (λ (s : Code P R O). Answered rules (stands listing s es) call Done (stopped (jobs b.residents) (listing b.order))) (sym is)
        (subst (λ (k : Call). Answered rules (running (jobs r.board.residents) (listing r.board.order) es) k Done (stopped (jobs b.residents) (listing b.order))) (sym stopping)
        (subst (λ (x : Board P R O). Answered rules (running (jobs r.board.residents) (listing r.board.order) es) Stop Done (stopped (jobs x.residents) (listing x.order))) (sym board) stops)),
    tt,
  )

  pub turn_not_stopped : (b : Board P R O) (es : List Event) → self ≡ Stopped b → turns call ≡ true → (call ≡ Start → ⊥) → Turns NotTaken (Stopped b) es
  turn_not_stopped b es is turning other =
      ([], subst (λ (s : Code P R O). Answered rules (stands listing s es) call NotTaken (stopped (jobs b.residents) (listing b.order))) (sym is) (not_taken (left call turning other)), tt) where
        left : (k : Call) → turns k ≡ true → (k ≡ Start → ⊥) → taken (stopped (jobs b.residents) (listing b.order)) k ≡ false
        left (Load text) turning other = absurd (let z : ◌≡◌ {A = Bool} false true = turning in cc)
        left (Unload n) turning other = absurd (let z : ◌≡◌ {A = Bool} false true = turning in cc)
        left Start turning other = absurd (other refl)
        left (Arrive n b) turning other = refl
        left (Tick served done) turning other = refl
        left Stop turning other = refl

  pub turn_not_running : (r : RunningBoard P R O) (es : List Event) → self ≡ Running r → InStep self es → turns call ≡ true → (call ≡ Stop → ⊥) → Turns NotTaken (Running r) es
  turn_not_running r es is keeps turning other = (
    es,
    subst (λ (s : Code P R O). Answered rules (stands listing s es) call NotTaken (running (jobs r.board.residents) (listing r.board.order) es)) (sym is) (not_taken (left call turning other)),
    subst (λ (s : Code P R O). InStep s es) is keeps,
  ) where
    left : (k : Call) → turns k ≡ true → (k ≡ Stop → ⊥) → taken (running (jobs r.board.residents) (listing r.board.order) es) k ≡ false
    left (Load text) turning other = refl
    left (Unload n) turning other = refl
    left Start turning other = refl
    left (Arrive n b) turning other = absurd (let z : ◌≡◌ {A = Bool} false true = turning in cc)
    left (Tick served done) turning other = absurd (let z : ◌≡◌ {A = Bool} false true = turning in cc)
    left Stop turning other = absurd (other refl)
