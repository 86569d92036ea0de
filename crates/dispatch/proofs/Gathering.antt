-- Going through open sub-tasks, and which candidates they give.
use Rattle.std.proofs.Common.{◌≡◌, ℕ, ◌+◌, ◌<◌, ◌≤◌, Bool, true, false, ◌&&◌, ◌==◌, cond, List, [], ◌∷◌, ◌++◌, length, get_or, take, map, filter, fold, Option, nat_le, refl, sym, ap, ◌∙◌, inl, inr, arith}
use Rattle.std.proofs.lemmas.Bool.{and_parts, cases_Bool}
use Rattle.std.proofs.lemmas.Bool.Decides.{nat_tests}
use Rattle.std.proofs.lemmas.List.{append-nil, map-append, take_more}
use Rattle.std.proofs.lemmas.List.Elements.{filter-append}
use Rattle.std.proofs.lemmas.List.Sums.{fold-append}
use Rattle.std.specs.List.{list_all}
use Rattle.dispatch.specs.declared.candidate.Candidate.{Candidate}
use Rattle.dispatch.specs.declared.phase.Phase.{Phase}
use Rattle.dispatch.specs.declared.phase.Phase.TheVariants.{Finished, Late, Ready, Waiting}
use Rattle.dispatch.specs.declared.slot.Open.{Open}
use Rattle.dispatch.specs.declared.slot.Slot.{Slot}
use Rattle.dispatch.specs.Candidate.{key}
use Rattle.dispatch.specs.Choosing.{all_candidates, candidate, candidates, ready_of, ready_on, soonest}
use Rattle.dispatch.specs.Phase.{is_ready, meaning}
use Rattle.dispatch.specs.Slot.{in_time, phase_in_time, slot_in_time, tasks_in}
use Rattle.dispatch.specs.Table.{shown, slot_shown}
use Rattle.runs.specs.Next.{better, Key, sooner}
use Rattle.runs.specs.State.{is_pending, tasks_of}

-- one item more of a list
pub take_next : {X : Type 0} (xs : List X) (i : ℕ) (x : X) → i < length xs → x ≡ get_or xs i x → take (i + 1) xs ≡ take i xs ++ x ∷ []
take_next xs i x within is = take_more xs i x within ∙ ap (λ y. take i xs ++ y ∷ []) (sym is)

module _ (e j : ℕ) (os : List Open) (o : Open) where
  pub ready_yes : ready_on e o ≡ true → ready_of e j (os ++ o ∷ []) ≡ ready_of e j os ++ candidate j o ∷ []
  ready_yes is =
      ap (map (candidate j)) (filter-append (ready_on e) os (o ∷ []) ∙ rw is refl)
      ∙ map-append (candidate j) (filter (ready_on e) os) (o ∷ [])

  pub ready_no : ready_on e o ≡ false → ready_of e j (os ++ o ∷ []) ≡ ready_of e j os
  ready_no is =
      ap (map (candidate j)) (filter-append (ready_on e) os (o ∷ []) ∙ rw is refl)
      ∙ (map-append (candidate j) (filter (ready_on e) os) [] ∙ append-nil (map (candidate j) (filter (ready_on e) os)))

pub ready_few : (e j : ℕ) (os : List Open) → length (ready_of e j os) ≤ length os
ready_few e j [] = omega arith
ready_few e j (o ∷ os) = elim (cases_Bool (ready_on e o)) [ inl y ↦ (let rec = ready_few e j os in rw y (omega arith)) | inr n ↦ (let rec = ready_few e j os in rw n (omega arith)) ]

-- on tasks that are in time, to be ready is told by the phase
ready_by : (f : Phase) (b : Bool) (t r : ℕ) → phase_in_time t r f ≡ true → (is_pending (meaning f) && (b && nat_le r t)) ≡ (is_ready f && b)
ready_by (Waiting n) true t r is = grind (arith, nat_tests)
ready_by (Waiting n) false t r is = refl
ready_by (Ready n) true t r is = is
ready_by (Ready n) false t r is = refl
ready_by Finished b t r is = refl
ready_by Late b t r is = refl

-- the first of some keys, by what was found so far
abbrev pub first_of : Option Key → List Key → Option Key
first_of o ks = fold (λ found k. sooner k found) o ks

better_is : (e t j : ℕ) (o : Option Key) (x : Open) → in_time t x ≡ true → better e t o (shown j x) ≡ cond (ready_on e x) (sooner (key (candidate j x)) o) o
better_is e t j o x is = ap (λ b. cond b (sooner (key (candidate j x)) o) o) (ready_by x.phase (x.engine == e) t x.release is)

first_in : (e t j : ℕ) (o : Option Key) (xs : List Open) → list_all (in_time t) xs ≡ true → fold (better e t) o (map (shown j) xs) ≡ first_of o (map key (ready_of e j xs))
first_in e t j o [] all = refl
first_in e t j o (x ∷ xs) all =
    let both = and_parts (in_time t x) (list_all (in_time t) xs) all in
    ap (λ r. fold (better e t) r (map (shown j) xs)) (better_is e t j o x both.0)
    ∙ elim (cases_Bool (ready_on e x)) [
      | inl y ↦ rw y (first_in e t j (sooner (key (candidate j x)) o) xs both.1)
      | inr n ↦ rw n (first_in e t j o xs both.1)
    ]

pub first_in_all : (e t : ℕ) (o : Option Key) (ss : List Slot) → list_all (slot_in_time t) ss ≡ true → fold (better e t) o (tasks_of (map slot_shown ss)) ≡ first_of o (map key (all_candidates e ss))
first_in_all e t o [] all = refl
first_in_all e t o (s ∷ ss) all =
    let both = and_parts (slot_in_time t s) (list_all (slot_in_time t) ss) all in
    fold-append (better e t) o (map (shown s.job) (tasks_in s)) (tasks_of (map slot_shown ss))
    ∙ (ap (λ r. fold (better e t) r (tasks_of (map slot_shown ss))) (first_in e t s.job o (tasks_in s) both.0)
    ∙ (first_in_all e t (first_of o (map key (candidates e s))) ss both.1
    ∙ (sym (fold-append (λ found k. sooner k found) o (map key (candidates e s)) (map key (all_candidates e ss)))
    ∙ ap (first_of o) (sym (map-append key (candidates e s) (all_candidates e ss))))))

pub soonest_first : (o : Option Key) (cs : List Candidate) → soonest o cs ≡ first_of o (map key cs)
soonest_first o [] = refl
soonest_first o (c ∷ cs) = soonest_first (sooner (key c) o) cs
