-- The run in which arrivals come as they are listed, and engines are served as little as they may be.
use Rattle.std.proofs.Common.{◌≡◌, ℕ, zero, suc, ◌+◌, ◌<◌, ◌≤◌, Bool, false, cond, ◌&&◌, nat_lt, Option, Some, None, List, [], ◌∷◌, ◌++◌, map, flat_map, length, take, drop, refl, sym, ap, ◌∙◌, subst, inl, inr, take_all, add-one, arith}
use Rattle.std.specs.List.{AllByRecursion}
use Rattle.std.proofs.lemmas.Bool.{cases_eq, le-ltb, lt-ltb}
use Rattle.std.proofs.lemmas.List.{drop-append-le, drop-take, drop_all, length_push, take-append-le}
use Rattle.std.proofs.lemmas.List.Sums.{sum_by-append}
use Rattle.runs.specs.Job.{Apart, Job}
use Rattle.runs.specs.State.{each, State}
use Rattle.runs.specs.Events.{advance, arrive, choices, Event, expired, play, run, start, step, tick}
use Rattle.runs.specs.Runs.{AllGranted, Lawful, masks, Quiet, served_ticks, Supplied}
use Rattle.runs.proofs.Lists.{all_append, all_from_mem, all_mem, map_again, map_on, Mem, mem_map}
use Rattle.runs.proofs.Sums.{bit}
use Rattle.runs.proofs.Trains.{came, coming, cut, Fair, Train, upto_none}
use Rattle.runs.proofs.Calls.{after, after_own, calls, calls_end, calls_granted, calls_of}
use Rattle.runs.proofs.Lean.{lean, level, level_more, level_supply}

-- lists of events one after the other
play_append : (st : State) (es fs : List Event) → play st (es ++ fs) ≡ play (play st es) fs
play_append st [] fs = refl
play_append st (e ∷ es) fs = play_append (step st e) es fs

granted_append : (engines : ℕ) (st : State) (es fs : List Event) → AllGranted engines st es → AllGranted engines (play st es) fs → AllGranted engines st (es ++ fs)
granted_append engines st [] fs a b = b
granted_append engines st (e ∷ es) fs a b = (a.0, granted_append engines (step st e) es fs a.1 b)

masks_append : (es fs : List Event) → masks (es ++ fs) ≡ masks es ++ masks fs
masks_append [] fs = refl
masks_append (arrive j b ∷ es) fs = masks_append es fs
masks_append (tick on done ∷ es) fs = ap (λ ms. on ∷ ms) (masks_append es fs)

no_masks : (t : ℕ) (ps : List Train) → masks (flat_map (calls t) ps) ≡ []
no_masks t [] = refl
no_masks t (p ∷ ps) = go (coming t p.arrivals) (no_masks t ps)
  where
    go : (o : Option ℕ) → masks (flat_map (calls t) ps) ≡ [] → masks (calls_of p.job.number o ++ flat_map (calls t) ps) ≡ []
    go None r = r
    go (Some b) r = r

no_reports : (t : ℕ) (ps : List Train) → AllByRecursion Quiet (flat_map (calls t) ps)
no_reports t [] = tt
no_reports t (p ∷ ps) = go (coming t p.arrivals) (no_reports t ps)
  where
    go : (o : Option ℕ) → AllByRecursion Quiet (flat_map (calls t) ps) → AllByRecursion Quiet (calls_of p.job.number o ++ flat_map (calls t) ps)
    go None r = r
    go (Some b) r = (tt, r)

-- the run up to a clock
abbrev mask : ℕ → (ℕ → ℕ → ℕ) → ℕ → ℕ → ℕ → Bool
mask engines supply x t e = nat_lt e engines && lean (supply e) x t

abbrev turn_of : ℕ → (ℕ → ℕ → ℕ) → ℕ → List Train → ℕ → List Event
turn_of engines supply x ps t = flat_map (calls t) ps ++ (tick (mask engines supply x t) (λ _. false) ∷ [])

abbrev pub story : ℕ → (ℕ → ℕ → ℕ) → ℕ → List Train → ℕ → List Event
story engines supply x ps zero = []
story engines supply x ps (suc t) = story engines supply x ps t ++ turn_of engines supply x ps t

module _ (engines : ℕ) (supply : ℕ → ℕ → ℕ) (x : ℕ) (ps : List Train) where
  story_masks : (t : ℕ) → masks (story engines supply x ps (suc t)) ≡ masks (story engines supply x ps t) ++ (mask engines supply x t ∷ [])
  story_masks t = masks_append (story engines supply x ps t) (turn_of engines supply x ps t)
      ∙ ap (λ ms. masks (story engines supply x ps t) ++ ms) (masks_append (flat_map (calls t) ps) (tick (mask engines supply x t) (λ _. false) ∷ []) ∙ ap (λ ms. ms ++ (mask engines supply x t ∷ [])) (no_masks t ps))

  story_length : (t : ℕ) → length (masks (story engines supply x ps t)) ≡ t
  story_length zero = refl
  story_length (suc t) = omega (arith, ap length (story_masks t), length_push (masks (story engines supply x ps t)) (mask engines supply x t), story_length t)

  story_take : (y k : ℕ) → k ≤ y → take k (masks (story engines supply x ps y)) ≡ masks (story engines supply x ps k)
  story_take zero k l = let z : k ≡ 0 = omega arith in rw z refl
  story_take (suc y) k l = elim (cases_eq k (suc y)) [
    | inl e ↦ rw e (take_all (suc y) (masks (story engines supply x ps (suc y))) (omega (arith, story_length (suc y))))
    | inr ne ↦ ap (take k) (story_masks y) ∙ (take-append-le k (masks (story engines supply x ps y)) (mask engines supply x y ∷ []) (omega (arith, story_length y)) ∙ story_take y k (omega arith))
  ]

  pub story_served : (e : ℕ) → e < engines → Lawful (supply e) → (a k : ℕ) → a ≤ k → served_ticks e (drop a (masks (story engines supply x ps k))) + level (supply e) x a ≡ level (supply e) x k
  story_served e known ok a zero l = let z : a ≡ 0 = omega arith in rw z (omega arith)
  story_served e known ok a (suc k) l = elim (cases_eq a (suc k)) [
    | inl q ↦
        let none = ap (served_ticks e) (drop_all a (masks (story engines supply x ps (suc k))) (omega (arith, story_length (suc k)))) in
        omega (arith, ap (level (supply e) x) q)
    | inr ne ↦
        let cut_it = ap (λ ms. served_ticks e (drop a ms)) (story_masks k)
        ∙ (ap (served_ticks e) (drop-append-le a (masks (story engines supply x ps k)) (mask engines supply x k ∷ []) (omega (arith, story_length k)))
        ∙ sum_by-append (λ (m : ℕ → Bool). cond (m e) 1 0) (drop a (masks (story engines supply x ps k))) (mask engines supply x k ∷ [])) in
        let rec = story_served e known ok a k (omega arith) in
        let more = level_more (supply e) ok x k in
        let one : mask engines supply x k e ≡ lean (supply e) x k = ap (λ b. b && lean (supply e) x k) (lt-ltb e engines known) in
        omega (arith, ap (level (supply e) x) (add-one k), ap bit one)
  ]

  pub story_supplied : ((e : ℕ) → e < engines → Lawful (supply e)) → (y : ℕ) → Supplied engines supply (masks (story engines supply x ps y))
  story_supplied laws y e a n known l =
      let inside : a + n ≤ y = omega (arith, story_length y) in
      let f = ap (served_ticks e) (sym (drop-take a n (masks (story engines supply x ps y))) ∙ ap (drop a) (story_take y (a + n) inside)) in
      omega (arith, story_served e known (laws e known) a (a + n) (omega arith), level_supply (supply e) (laws e known) x a n)

  pub story_silent : (t : ℕ) → AllByRecursion Quiet (story engines supply x ps t)
  story_silent zero = tt
  story_silent (suc t) = all_append Quiet (story engines supply x ps t) (turn_of engines supply x ps t) (story_silent t)
      (all_append Quiet (flat_map (calls t) ps) (tick (mask engines supply x t) (λ _. false) ∷ []) (no_reports t ps) ((λ _. refl), tt))

-- where the run stands at a clock
start_trains : (ps : List Train) → map came (start (map (λ p. p.job) ps)).slots ≡ map (cut 0) ps
start_trains [] = refl
start_trains (p ∷ ps) = rw (upto_none p.arrivals) (ap (λ r. record { job = p.job; arrivals = [] } ∷ r) (start_trains ps))

tick_trains : (st : State) (on done : ℕ → Bool) → map came (step st (tick on done)).slots ≡ map came st.slots
tick_trains st on done =
    let t = st.clock in
    map_again came (each (expired (t + 1))) (λ _. refl) (run t on done st.slots)
    ∙ map_again came (each (advance (choices t st.slots) on done)) (λ _. refl) st.slots

pub record At (engines : ℕ) (jobs : List Job) (ps : List Train) (t : ℕ) (es : List Event) : Type 0 where
  pub clock_is : (play (start jobs) es).clock ≡ t
  pub trains_are : map came (play (start jobs) es).slots ≡ map (cut t) ps
  pub all_granted : AllGranted engines (start jobs) es

module _ (engines : ℕ) (supply : ℕ → ℕ → ℕ) (x : ℕ) (jobs : List Job) (ps : List Train) (are : map (λ p. p.job) ps ≡ jobs) (apart : Apart (λ p. p.job.number) ps) (fair : AllByRecursion Fair ps) where
  pub story_at : (t : ℕ) → t ≤ 2000000000 → At engines jobs ps t (story engines supply x ps t)
  story_at zero ends = record { clock_is = refl; trains_are = ap (λ js. map came (start js).slots) (sym are) ∙ start_trains ps; all_granted = tt }
  story_at (suc t) ends =
      let es = story engines supply x ps t in
      let i = story_at t (omega arith) in
      let st = play (start jobs) es in
      let last : List Event = tick (mask engines supply x t) (λ _. false) ∷ [] in
      let (c, m) = calls_end t ps st i.clock_is in
      let st2 = play st (flat_map (calls t) ps) in
      let whole = play_append (start jobs) es (turn_of engines supply x ps t) ∙ play_append st (flat_map (calls t) ps) last in
      let grown = map_on (after t ps) (cut t) (cut (t + 1)) ps (all_from_mem (λ p. after t ps (cut t p) ≡ cut (t + 1) p) ps (λ p q. after_own t ps apart p (all_mem Fair ps p q fair) q)) in
      record {
        clock_is = ap (λ s. s.clock) whole ∙ (ap (λ k. k + 1) c ∙ add-one t);
        trains_are = ap (λ s. map came s.slots) whole ∙ (tick_trains st2 (mask engines supply x t) (λ _. false)
            ∙ (m ∙ (ap (map (after t ps)) i.trains_are ∙ (grown ∙ ap (λ k. map (cut k) ps) (add-one t)))));
        all_granted = granted_append engines (start jobs) es (turn_of engines supply x ps t) i.all_granted
            (granted_append engines st (flat_map (calls t) ps) last
            (calls_granted engines t ps st i.clock_is apart fair (all_from_mem (λ p. Mem (cut t p) (map came st.slots)) ps (λ p q. subst (Mem (cut t p)) (sym i.trains_are) (mem_map (cut t) ps p q))))
            ((omega (arith, c), λ e past. (ap (λ b. b && lean (supply e) x t) (le-ltb e engines past), refl)), tt));
      }
