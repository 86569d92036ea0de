-- A board that keeps what it has to keep of the state of its run does so after each event, and what it answers is right for that state.
use Rattle.std.proofs.Common.{◌≡◌, ℕ, ◌<◌, ◌≤◌, cond, eqb, List, [], ◌∷◌, ◌++◌, length, map, Option, Some, None, refl, sym, ap, ◌∙◌, subst, inl, inr, arith}
use Rattle.std.specs.Option.{option_map}
use Rattle.std.proofs.lemmas.Bool.{cases_Bool, or_parts}
use Rattle.board.specs.declared.refusal.Refusal.{Refusal}
use Rattle.board.specs.declared.refusal.Refusal.TheVariants.{Fault, NumberTaken, BoardFull, NoChoice, NoPlacement, NotResident, NoBranch, TooSoon, NoEngine, LastClock, ShortBuffer}
use Rattle.dispatch.specs.declared.candidate.Next.{Next}
use Rattle.dispatch.specs.Candidate.{named}
use Rattle.dispatch.specs.Kept.{kept, kept_arrivals, kept_slot}
use Rattle.dispatch.specs.KeptLaws.{kept_next, kept_steps, kept_ticks}
use Rattle.dispatch.specs.Ticking.{masked}
use Rattle.life.specs.Answered.{ticked}
use Rattle.life.specs.Standing.{state_of}
use Rattle.resident.specs.declared.resident.Resident.{Resident}
use Rattle.running.specs.Arriving.{ArriveRefused, slot_of}
use Rattle.running.specs.Ticking.{NoOther, Ran, TickRefused}
use Rattle.runs.specs.Events.{arrive, Event, free_at, play, step}
use Rattle.runs.specs.Job.{Job}
use Rattle.runs.specs.Next.{Key}
use Rattle.runs.specs.Runs.{Granted}
use Rattle.runs.specs.State.{Slot, State}
use Rattle.theory.specs.Pattern.{Arrival}

play_more : (st : State) (es : List Event) (e : Event) → play st (es ++ e ∷ []) ≡ step (play st es) e
play_more st [] e = refl
play_more st (x ∷ es) e = play_more (step st x) es e

pub state_more : (rs : List Resident) (es : List Event) (e : Event) → state_of rs (es ++ e ∷ []) ≡ step (state_of rs es) e
state_more rs es e = play_more (state_of rs []) es e

module _ (rs : List Resident) (es : List Event) (was now : State) (keeps : was ≡ kept (state_of rs es)) where
  pub keeps_arrival : (n b : ℕ) → now ≡ kept (step was (arrive n b)) → now ≡ kept (state_of rs (es ++ arrive n b ∷ []))
  keeps_arrival n b is =
      is ∙ ap (λ st. kept (step st (arrive n b))) keeps ∙ sym (kept_steps (state_of rs es) (arrive n b)) ∙ sym (ap kept (state_more rs es (arrive n b)))

  pub keeps_tick : (served done : ℕ) → now ≡ step was (ticked served done) → now ≡ kept (state_of rs (es ++ ticked served done ∷ []))
  keeps_tick served done is =
      is ∙ ap (λ st. step st (ticked served done)) keeps ∙ sym (kept_ticks (state_of rs es) (masked served) (masked done)) ∙ sym (ap kept (state_more rs es (ticked served done)))

-- what is asked of what is kept
slot_kept : (n : ℕ) (ss : List Slot) → slot_of n (map kept_slot ss) ≡ option_map kept_slot (slot_of n ss)
slot_kept n [] = refl
slot_kept n (s ∷ ss) = elim (cases_Bool (eqb s.job.number n)) [
  | inl y ↦ rw y refl
  | inr x ↦ rw x (slot_kept n ss)
]

kept_none : (o : Option Slot) → option_map kept_slot o ≡ None → o ≡ None
kept_none None is = refl
kept_none (Some s) is = absurd (let z : ◌≡◌ {A = ℕ} 0 1 = cc in omega arith)

kept_some : (o : Option Slot) (k : Slot) → option_map kept_slot o ≡ Some k → (s : Slot) × (o ≡ Some s) × (kept_slot s ≡ k)
kept_some None k is = absurd (let z : ◌≡◌ {A = ℕ} 0 1 = cc in omega arith)
kept_some (Some s) k is = (s, refl, (let z : kept_slot s ≡ k = cc in z))

free_kept : (j : Job) (came : List Arrival) → free_at j (kept_arrivals came) ≡ free_at j came
free_kept j [] = refl
free_kept j (a ∷ older) = refl

module _ (st : State) where
  pub arrival_refused : (n b : ℕ) (f : Refusal) → ArriveRefused (kept st) n b f → ArriveRefused st n b f
  arrival_refused n b (Fault f) refused = refused
  arrival_refused n b NumberTaken refused = refused
  arrival_refused n b BoardFull refused = refused
  arrival_refused n b NoChoice refused = refused
  arrival_refused n b NoPlacement refused = refused
  arrival_refused n b NotResident refused = kept_none (slot_of n st.slots) (sym (slot_kept n st.slots) ∙ refused)
  arrival_refused n b NoBranch (k, found, few) =
      let (s, at, is) = kept_some (slot_of n st.slots) k (sym (slot_kept n st.slots) ∙ found) in
      (s, at, subst (λ (x : Slot). length x.job.branches ≤ b) (sym is) few)
  arrival_refused n b TooSoon (k, found, low, soon) =
      let (s, at, is) = kept_some (slot_of n st.slots) k (sym (slot_kept n st.slots) ∙ found) in (
        s,
        at,
        subst (λ (x : Slot). b < length x.job.branches) (sym is) low,
        subst (λ (m : ℕ). st.clock < m) (free_kept s.job s.arrivals) (subst (λ (x : Slot). st.clock < free_at x.job x.arrivals) (sym is) soon),
      )
  arrival_refused n b NoEngine refused = refused
  arrival_refused n b LastClock refused = refused
  arrival_refused n b ShortBuffer refused = refused

  pub tick_refused : (engines served done : ℕ) (f : Refusal) → TickRefused engines (kept st) served done f → TickRefused engines st served done f
  tick_refused engines served done (Fault f) refused = refused
  tick_refused engines served done NumberTaken refused = refused
  tick_refused engines served done BoardFull refused = refused
  tick_refused engines served done NoChoice refused = refused
  tick_refused engines served done NoPlacement refused = refused
  tick_refused engines served done NotResident refused = refused
  tick_refused engines served done NoBranch refused = refused
  tick_refused engines served done TooSoon refused = refused
  tick_refused engines served done NoEngine refused = refused
  tick_refused engines served done LastClock refused = refused
  tick_refused engines served done ShortBuffer refused = refused

  pub ran_kept : (served : ℕ) (ran : List (Option Next)) → Ran (kept st) served ran → Ran st served ran
  ran_kept served ran is e low = is e low ∙ ap (λ (o : Option Key). cond (masked served e) (option_map named o) None) (kept_next e st.clock st.slots)

  pub tick_granted : (engines served done : ℕ) → st.clock < 2000000000 → NoOther engines served done → Granted engines st (ticked served done)
  tick_granted engines served done early none = (early, (λ e past. or_parts (masked served e) (masked done e) (none e past)))
