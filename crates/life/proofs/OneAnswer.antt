-- Boards that are alike answer a call alike.
use Rattle.std.proofs.Common.{◌≡◌, ℕ, Bool, true, false, List, [], ◌∷◌, ◌++◌, length, IsSome, Option, None, refl, sym, ap, ◌∙◌, subst, inl, inr, ◌⊎◌, arith}
use Rattle.std.specs.Prelude.{unwrap_or}
use Rattle.std.proofs.Math.Path.{fun_ext}
use Rattle.std.proofs.lemmas.List.{ext_get_or}
use Rattle.board.proofs.Determining.{engines_one, load_determined}
use Rattle.board.specs.declared.refusal.Refusal.{Refusal}
use Rattle.board.specs.declared.refusal.Refusal.TheVariants.{Fault, NumberTaken, BoardFull, NoChoice, NoPlacement, NotResident, NoBranch, TooSoon, NoEngine, LastClock, ShortBuffer}
use Rattle.board.specs.Determined.{Complete, Determined}
use Rattle.board.specs.Loading.{IsLoaded, LoadRefused}
use Rattle.board.specs.Placing.{Rules}
use Rattle.board.specs.Residents.{others, resident_of}
use Rattle.board.specs.Unloading.{UnloadRefused}
use Rattle.dispatch.specs.declared.candidate.Next.{Next}
use Rattle.life.specs.declared.call.Answer.{Answer}
use Rattle.life.specs.declared.call.Answer.TheVariants.{Done, Loaded, NotTaken, Refused, Ticked}
use Rattle.life.specs.declared.call.Call.{Call}
use Rattle.life.specs.declared.call.Call.TheVariants.{Arrive, Load, Start, Stop, Tick, Unload}
use Rattle.life.specs.Answered.{ticked}
use Rattle.running.specs.Arriving.{ArriveRefused}
use Rattle.running.specs.Ticking.{NoOther, Ran, SomeOther, TickRefused}
use Rattle.life.specs.Standing.{at, Listing, running, Standing, state_of, stopped}
use Rattle.life.proofs.Alike.{AllTwins, Both, each, neither, Twins, twins_found, twins_jobs, twins_left, twins_more, twins_same}
use Rattle.life.proofs.Arrivals.{granted_not_refused, one_arrival_refusal, run_jobs}
use Rattle.life.proofs.Promises.{Sound}
use Rattle.seated.specs.Lasting.{Placed}
use Rattle.dispatch.specs.Ticking.{masked}
use Rattle.std.proofs.lemmas.Bool.{or_from}
use Rattle.life.proofs.Moving.{loaded_moves, refused_moves}
use Rattle.life.proofs.Outcomes.{Kept, LoadedTo, Outcome, Refuses, TickedTo}
use Rattle.life.proofs.Same.{job_same}
use Rattle.plan.specs.Plan.{IsPlan}
use Rattle.resident.specs.declared.resident.Resident.{Resident}
use Rattle.runs.specs.Events.{arrive, Event, play, start}
use Rattle.runs.specs.Job.{Job as Run}
use Rattle.runs.specs.Runs.{Granted}
use Rattle.runs.specs.State.{State}
use Rattle.seated.specs.Jobs.{job_at, seat_of}
use Rattle.text.proofs.Only.{one_job}

-- how two boards stand alike
abbrev pub SameStanding : Standing → Standing → Type 0
SameStanding (stopped rs l) (stopped qs k) = AllTwins rs qs × (l ≡ k)
SameStanding (stopped rs l) (running qs k fs) = ⊥
SameStanding (running rs l es) (stopped qs k) = ⊥
SameStanding (running rs l es) (running qs k fs) = AllTwins rs qs × (l ≡ k) × (es ≡ fs)

abbrev pub SameOutcome : Answer → Answer → Standing → Standing → Type 0
SameOutcome a b t u = (a ≡ b) × SameStanding t u

pub state_same : (rs qs : List Resident) (es : List Event) → AllTwins rs qs → state_of rs es ≡ state_of qs es
state_same rs qs es all = ap (λ js. play (start js) es) (twins_jobs rs qs all)

kept_same : (answer : Answer) (x y t u : Standing) (a b : Answer) → SameStanding x y → Kept answer x a t → Kept answer y b u → SameOutcome a b t u
kept_same answer x y t u a b same k m = (k.0 ∙ sym m.0, subst (λ (v : Standing). SameStanding v u) (sym k.1) (subst (λ (w : Standing). SameStanding x w) (sym m.1) same))

module _ (rules : Rules) (qs : List Resident) (k : Listing) (complete : Complete (at rules k)) (text : List ℕ) where
  determined : Determined (at rules k) qs text
  determined = load_determined (at rules k) complete qs text

  -- one text is loaded as one job of a run
  loaded_twins : (r q : Resident) → IsLoaded (at rules k) qs text r → IsLoaded (at rules k) qs text q → Twins r q
  loaded_twins r q a b =
      let alike = determined.loaded r q a b in
      let same = one_job text r.plan.job q.plan.job a.comes.reads b.comes.reads in
      let planned : IsPlan rules.local q.plan.job r.plan.choice q.plan = subst (λ c. IsPlan rules.local q.plan.job c q.plan) (sym alike.choice) b.places.placed.planned in
      let engines : seat_of r ≡ seat_of q = fun_ext (λ g. ap (λ (o : Option ℕ). unwrap_or o 0) (engines_one r q alike.seats g)) in
      record {
        asked = alike.asked;
        job = job_same rules.local r.plan.choice r.plan.job q.plan.job same r.plan q.plan a.places.placed.planned planned (seat_of r) ∙ ap (job_at q.plan) engines;
      }

-- what is asked of a board moves to one that is alike
module _ (rules : Rules) (rs qs : List Resident) (all : AllTwins rs qs) (l : Listing) (complete : Complete (at rules l)) (text : List ℕ) where
  load_same : (a b : Answer) (t u : Standing)
      → LoadedTo rules rs l text a t ⊎ Refuses (LoadRefused (at rules l) rs text) (stopped rs l) a t
      → LoadedTo rules qs l text b u ⊎ Refuses (LoadRefused (at rules l) qs text) (stopped qs l) b u
      → SameOutcome a b t u
  load_same a b t u (inl x) (inl y) =
      let one = determined rules qs l complete text in
      let r = x.takes.job in
      let q = y.takes.job in
      let moved = loaded_moves (at rules l) rs qs (twins_same rs qs all) text r x.takes.loaded in
      let twins = loaded_twins rules qs l complete text r q moved y.takes.loaded in
      let alike = one.loaded r q moved y.takes.loaded in
      let numbers : x.number ≡ y.number = x.takes.its_number ∙ ap (λ (j : Run). j.number) twins.job ∙ sym y.takes.its_number in
      let told : x.told ≡ y.told = fun_ext (λ ts. x.takes.told ts ∙ ap (λ ps. l (ps ++ ts)) alike.seats ∙ sym (y.takes.told ts)) in
      let after : AllTwins x.after y.after =
      subst (λ (v : List Resident). AllTwins v y.after) (sym x.takes.gained) (subst (λ (w : List Resident). AllTwins (rs ++ r ∷ []) w) (sym y.takes.gained) (twins_more rs qs r q all twins)) in (
        x.kept.0 ∙ ap Loaded numbers ∙ sym y.kept.0,
        subst (λ (v : Standing). SameStanding v u) (sym x.kept.1) (subst (λ (w : Standing). SameStanding (stopped x.after x.told) w) (sym y.kept.1) (after, told)),
      )
  load_same a b t u (inl x) (inr (g, refused, kept)) =
      absurd ((determined rules qs l complete text).apart x.takes.job g (loaded_moves (at rules l) rs qs (twins_same rs qs all) text x.takes.job x.takes.loaded) refused)
  load_same a b t u (inr (f, refused, kept)) (inl y) =
      absurd ((determined rules qs l complete text).apart y.takes.job f y.takes.loaded (refused_moves (at rules l) rs qs (twins_same rs qs all) text f refused))
  load_same a b t u (inr (f, refused, kept)) (inr (g, other, held)) =
      let one = (determined rules qs l complete text).refusal f g (refused_moves (at rules l) rs qs (twins_same rs qs all) text f refused) other in
      kept_same (Refused g) (stopped rs l) (stopped qs l) t u a b (all, refl) (kept.0 ∙ ap Refused one, kept.1) held

module _ (rules : Rules) (rs qs : List Resident) (all : AllTwins rs qs) (l : Listing) (n : ℕ) where
  both_some : (o p : Option Resident) → Both o p → IsSome o → p ≡ None → ⊥
  both_some _ _ neither some none = let z : ◌≡◌ {A = Bool} false true = some in cc
  both_some _ _ (each twins) some none = absurd (let z : ◌≡◌ {A = ℕ} 0 1 = cc in omega arith)

  both_none : (o p : Option Resident) → Both o p → o ≡ None → IsSome p → ⊥
  both_none _ _ neither none some = let z : ◌≡◌ {A = Bool} false true = some in cc
  both_none _ _ (each twins) none some = absurd (let z : ◌≡◌ {A = ℕ} 0 1 = cc in omega arith)

  unload_same : (a b : Answer) (t u : Standing)
      → (IsSome (resident_of rs n) × Kept Done (stopped (others rs n) l) a t) ⊎ Refuses (UnloadRefused rs n) (stopped rs l) a t
      → (IsSome (resident_of qs n) × Kept Done (stopped (others qs n) l) b u) ⊎ Refuses (UnloadRefused qs n) (stopped qs l) b u
      → SameOutcome a b t u
  unload_same a b t u (inl (some, kept)) (inl (other, held)) = kept_same Done (stopped (others rs n) l) (stopped (others qs n) l) t u a b (twins_left n rs qs all, refl) kept held
  unload_same a b t u (inl (some, kept)) (inr (g, refused, held)) = absurd (both_some (resident_of rs n) (resident_of qs n) (twins_found n rs qs all) some refused.missing)
  unload_same a b t u (inr (f, refused, kept)) (inl (some, held)) = absurd (both_none (resident_of rs n) (resident_of qs n) (twins_found n rs qs all) refused.missing some)
  unload_same a b t u (inr (f, refused, kept)) (inr (g, other, held)) =
      kept_same (Refused NotResident) (stopped rs l) (stopped qs l) t u a b (all, refl) (kept.0 ∙ ap Refused refused.question, kept.1) (held.0 ∙ ap Refused other.question, held.1)

-- ticks
none_other : (engines served done : ℕ) → SomeOther engines served done → NoOther engines served done → ⊥
none_other engines served done (e, past, set) none = let z : ◌≡◌ {A = Bool} false true = sym (none e past) ∙ set in cc

grants_no_other : (engines served done : ℕ) (st : State) → Granted engines st (ticked served done) → SomeOther engines served done → ⊥
grants_no_other engines served done st granted (e, past, set) =
    let clear = granted.1 e past in
    let z : ◌≡◌ {A = Bool} false true = sym (or_from (masked served e) (masked done e) clear.0 clear.1) ∙ set in cc

data Misses (engines : ℕ) (st : State) (served done : ℕ) : Refusal → Type 0 where
  engine : SomeOther engines served done → Misses engines st served done NoEngine
  clock : NoOther engines served done → st.clock ≡ 2000000000 → Misses engines st served done LastClock

misses : (engines : ℕ) (st : State) (served done : ℕ) (f : Refusal) → TickRefused engines st served done f → Misses engines st served done f
misses engines st served done (Fault f) refused = absurd refused
misses engines st served done NumberTaken refused = absurd refused
misses engines st served done BoardFull refused = absurd refused
misses engines st served done NoChoice refused = absurd refused
misses engines st served done NoPlacement refused = absurd refused
misses engines st served done NotResident refused = absurd refused
misses engines st served done NoBranch refused = absurd refused
misses engines st served done TooSoon refused = absurd refused
misses engines st served done NoEngine refused = engine refused
misses engines st served done LastClock (none, is) = clock none is
misses engines st served done ShortBuffer refused = absurd refused

module _ (engines : ℕ) (st : State) (served done : ℕ) where
  one_missed : (f g : Refusal) → Misses engines st served done f → Misses engines st served done g → f ≡ g
  one_missed f g (engine a) (engine b) = refl
  one_missed f g (engine a) (clock none is) = absurd (none_other engines served done a none)
  one_missed f g (clock none is) (engine b) = absurd (none_other engines served done b none)
  one_missed f g (clock none is) (clock some also) = refl

  granted_misses : (f : Refusal) → Granted engines st (ticked served done) → Misses engines st served done f → ⊥
  granted_misses f granted (engine a) = grants_no_other engines served done st granted a
  granted_misses f granted (clock none is) = let early = granted.0 in omega arith

  one_tick_refusal : (f g : Refusal) → TickRefused engines st served done f → TickRefused engines st served done g → f ≡ g
  one_tick_refusal f g a b = one_missed f g (misses engines st served done f a) (misses engines st served done g b)

  one_ran : (ran also : List (Option Next)) → length ran ≡ 16 → length also ≡ 16 → Ran st served ran → Ran st served also → ran ≡ also
  one_ran ran also long long_too is too = ext_get_or None ran also (long ∙ sym long_too) (λ e low. is e (omega arith) ∙ sym (too e (omega arith)))

module _ (rules : Rules) (rs qs : List Resident) (all : AllTwins rs qs) (l : Listing) (es : List Event) (placed : Placed rules rs) where
  same_state : state_of rs es ≡ state_of qs es
  same_state = state_same rs qs es all

  arrive_same : (n b : ℕ) (a c : Answer) (t u : Standing)
      → (Granted (length rules.tags) (state_of rs es) (arrive n b) × Kept Done (running rs l (es ++ arrive n b ∷ [])) a t) ⊎ Refuses (ArriveRefused (state_of rs es) n b) (running rs l es) a t
      → (Granted (length rules.tags) (state_of qs es) (arrive n b) × Kept Done (running qs l (es ++ arrive n b ∷ [])) c u) ⊎ Refuses (ArriveRefused (state_of qs es) n b) (running qs l es) c u
      → SameOutcome a c t u
  arrive_same n b a c t u (inl (granted, kept)) (inl (also, held)) = kept_same Done (running rs l (es ++ arrive n b ∷ [])) (running qs l (es ++ arrive n b ∷ [])) t u a c (all, refl, refl) kept held
  arrive_same n b a c t u (inl (granted, kept)) (inr (g, refused, held)) =
      absurd (granted_not_refused (state_of rs es) n b (length rules.tags) rs (run_jobs rs es) placed.numbers_differ granted g (subst (λ (st : State). ArriveRefused st n b g) (sym same_state) refused))
  arrive_same n b a c t u (inr (f, refused, kept)) (inl (granted, held)) =
      absurd (granted_not_refused (state_of rs es) n b (length rules.tags) rs (run_jobs rs es) placed.numbers_differ (subst (λ (st : State). Granted (length rules.tags) st (arrive n b)) (sym same_state) granted) f refused)
  arrive_same n b a c t u (inr (f, refused, kept)) (inr (g, other, held)) =
      let one = one_arrival_refusal (state_of rs es) n b f g refused (subst (λ (st : State). ArriveRefused st n b g) (sym same_state) other) in
      kept_same (Refused g) (running rs l es) (running qs l es) t u a c (all, refl, refl) (kept.0 ∙ ap Refused one, kept.1) held

  tick_same : (served done : ℕ) (a c : Answer) (t u : Standing)
      → TickedTo rules rs l es served done a t ⊎ Refuses (TickRefused (length rules.tags) (state_of rs es) served done) (running rs l es) a t
      → TickedTo rules qs l es served done c u ⊎ Refuses (TickRefused (length rules.tags) (state_of qs es) served done) (running qs l es) c u
      → SameOutcome a c t u
  tick_same served done a c t u (inl x) (inl y) =
      let more = es ++ ticked served done ∷ [] in
      let ran = one_ran (length rules.tags) (state_of rs es) served done x.ran y.ran x.ran_long y.ran_long x.ran_is (subst (λ (st : State). Ran st served y.ran) (sym same_state) y.ran_is) in
      let before : (state_of rs es).lates ≡ (state_of qs es).lates = ap (λ (st : State). st.lates) same_state in
      let after : (state_of rs more).lates ≡ (state_of qs more).lates = ap (λ (st : State). st.lates) (state_same rs qs more all) in
      let late : x.late ≡ y.late = omega (arith, x.late_is, y.late_is) in
      let answers : Ticked x.ran x.late ≡ Ticked y.ran y.late = ap (λ (r : List (Option Next)). Ticked r x.late) ran ∙ ap (Ticked y.ran) late in
      kept_same (Ticked y.ran y.late) (running rs l more) (running qs l more) t u a c (all, refl, refl) (x.kept.0 ∙ answers, x.kept.1) y.kept
  tick_same served done a c t u (inl x) (inr (g, refused, held)) =
      absurd (granted_misses (length rules.tags) (state_of qs es) served done g (subst (λ (st : State). Granted (length rules.tags) st (ticked served done)) same_state x.granted) (misses (length rules.tags) (state_of qs es) served done g refused))
  tick_same served done a c t u (inr (f, refused, kept)) (inl y) =
      absurd (granted_misses (length rules.tags) (state_of rs es) served done f (subst (λ (st : State). Granted (length rules.tags) st (ticked served done)) (sym same_state) y.granted) (misses (length rules.tags) (state_of rs es) served done f refused))
  tick_same served done a c t u (inr (f, refused, kept)) (inr (g, other, held)) =
      let one = one_tick_refusal (length rules.tags) (state_of rs es) served done f g refused (subst (λ (st : State). TickRefused (length rules.tags) st served done g) (sym same_state) other) in
      kept_same (Refused g) (running rs l es) (running qs l es) t u a c (all, refl, refl) (kept.0 ∙ ap Refused one, kept.1) held

-- a call on boards that are alike
module _ (rules : Rules) where
  pub outcomes_same : (s v : Standing) (call : Call) (a c : Answer) (t u : Standing) → SameStanding s v → Sound rules s → Sound rules v → Outcome rules s call a t → Outcome rules v call c u → SameOutcome a c t u
  outcomes_same (stopped rs l) (stopped qs k) (Load text) a c t u same x y p q =
      load_same rules rs qs same.0 l x.1 text.now a c t u p (subst (λ (m : Listing). Outcome rules (stopped qs m) (Load text) c u) (sym same.1) q)
  outcomes_same (stopped rs l) (stopped qs k) (Unload n) a c t u same x y p q =
      unload_same rules rs qs same.0 l n a c t u p (subst (λ (m : Listing). Outcome rules (stopped qs m) (Unload n) c u) (sym same.1) q)
  outcomes_same (stopped rs l) (stopped qs k) Start a c t u same x y p q = kept_same Done (running rs l []) (running qs k []) t u a c (same.0, same.1, refl) p q
  outcomes_same (stopped rs l) (stopped qs k) (Arrive n b) a c t u same x y p q = kept_same NotTaken (stopped rs l) (stopped qs k) t u a c same p q
  outcomes_same (stopped rs l) (stopped qs k) (Tick served done) a c t u same x y p q = kept_same NotTaken (stopped rs l) (stopped qs k) t u a c same p q
  outcomes_same (stopped rs l) (stopped qs k) Stop a c t u same x y p q = kept_same NotTaken (stopped rs l) (stopped qs k) t u a c same p q
  outcomes_same (stopped rs l) (running qs k fs) call a c t u same x y p q = absurd same
  outcomes_same (running rs l es) (stopped qs k) call a c t u same x y p q = absurd same
  outcomes_same (running rs l es) (running qs k fs) (Load text) a c t u same x y p q = kept_same NotTaken (running rs l es) (running qs k fs) t u a c same p q
  outcomes_same (running rs l es) (running qs k fs) (Unload n) a c t u same x y p q = kept_same NotTaken (running rs l es) (running qs k fs) t u a c same p q
  outcomes_same (running rs l es) (running qs k fs) Start a c t u same x y p q = kept_same NotTaken (running rs l es) (running qs k fs) t u a c same p q
  outcomes_same (running rs l es) (running qs k fs) (Arrive n b) a c t u same x y p q =
      arrive_same rules rs qs same.0 l es x.0 n b a c t u p
      (subst (λ (m : Listing). Outcome rules (running qs m es) (Arrive n b) c u) (sym same.1) (subst (λ (gs : List Event). Outcome rules (running qs k gs) (Arrive n b) c u) (sym same.2) q))
  outcomes_same (running rs l es) (running qs k fs) (Tick served done) a c t u same x y p q =
      tick_same rules rs qs same.0 l es x.0 served done a c t u p
      (subst (λ (m : Listing). Outcome rules (running qs m es) (Tick served done) c u) (sym same.1) (subst (λ (gs : List Event). Outcome rules (running qs k gs) (Tick served done) c u) (sym same.2) q))
  outcomes_same (running rs l es) (running qs k fs) Stop a c t u same x y p q = kept_same Done (stopped rs l) (stopped qs k) t u a c (same.0, same.1) p q
