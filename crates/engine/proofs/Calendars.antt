-- The courses of a calendar, and what it answers of an engine.
use Rattle.std.proofs.Common.{◌≡◌, ℕ, zero, suc, ◌+◌, ◌<◌, ◌≤◌, Bool, List, [], ◌∷◌, ◌++◌, map, length, length-take, get_or, take, Option, Some, None, MatchOption, Bor, sym, ap, subst, ◌∙◌, add-one, arith}
use Rattle.std.specs.List.{slice_get}
use Rattle.std.specs.Option.{option_copied}
use Rattle.std.proofs.lemmas.List.{length-map, map_more, map_push, take_all}
use Rattle.std.proofs.lemmas.List.Elements.{All-more}
use Rattle.std.proofs.lemmas.Option.{none-some, same_Some}
use Rattle.engine.specs.declared.course.Course.{Course}
use Rattle.engine.specs.Calendar.{AllFit, calendar, idle, marks_of}
use Rattle.engine.specs.Course.{served}
use Rattle.engine.specs.declared.marks.Marks.{Marks}
use Rattle.engine.specs.Marks.{Fit, marked}

-- the marks of a course that is there, or those of an engine that does not exist
pub answered : (value : List Bool → ℕ) (cs : List Course) (e : ℕ) (o : Option (Bor Course)) (r : ℕ) → option_copied o ≡ slice_get cs e → MatchOption o (r ≡ value idle) (λ c. r ≡ value (served c.now)) → r ≡ value (marks_of cs e)
answered value [] e None r at is = is
answered value [] e (Some c) r at is = absurd (none-some c.now (sym at))
answered value (c ∷ cs) zero None r at is = absurd (none-some c at)
answered value (c ∷ cs) zero (Some d) r at is = is ∙ ap (λ (x : Course). value (served x)) (same_Some d.now c at)
answered value (c ∷ cs) (suc e) o r at is = answered value cs e o r at is

-- one course more
pub one_more : (ms : List Marks) (i : ℕ) (m : Marks) (cs ds : List Course) (c : Course) → i < length ms → m ≡ get_or ms i m → Fit m × (served c ≡ marked m) → ds ≡ cs ++ c ∷ [] → AllFit (take i ms) → calendar cs ≡ map marked (take i ms) → AllFit (take (i + 1) ms) × (calendar ds ≡ map marked (take (i + 1) ms))
one_more ms i m cs ds c below at is put fit was = (
  All-more Fit ms i m below fit (subst Fit at is.0),
  ap calendar put ∙ map_push served cs c ∙ ap (λ l. l ++ served c ∷ []) was ∙ ap (λ l. map marked (take i ms) ++ l ∷ []) (is.1 ∙ ap marked at) ∙ sym (map_more marked ms i m below),
)

-- and all of them
pub all_made : (ms : List Marks) (i : ℕ) (cs : List Course) → length ms ≤ i → AllFit (take i ms) → calendar cs ≡ map marked (take i ms) → AllFit ms × (calendar cs ≡ map marked ms)
all_made ms i cs past fit was = let whole = take_all i ms past in (subst AllFit whole fit, was ∙ ap (map marked) whole)

-- the first course
pub first_made : (ms os : List Marks) (first : Marks) (cs ds : List Course) (c : Course) → ms ≡ first ∷ os → Fit first × (served c ≡ marked first) → cs ≡ [] → ds ≡ cs ++ c ∷ [] → AllFit (take (0 + 1) ms) × (calendar ds ≡ map marked (take (0 + 1) ms))
first_made ms os first cs ds c is made none put =
    let long : length ms ≡ suc (length os) = ap length is in
    one_more ms 0 first cs ds c (omega arith) (sym (ap (λ l. get_or l 0 first) is)) made put (λ k d low. absurd (omega arith)) (ap calendar none)

-- after the first, one course more of the others
pub one_other : (ms os : List Marks) (first : Marks) (i : ℕ) (m : Marks) (cs ds : List Course) (c : Course) → ms ≡ first ∷ os → i < length os → m ≡ get_or os i m → Fit m × (served c ≡ marked m) → ds ≡ cs ++ c ∷ [] → AllFit (take (i + 1) ms) → calendar cs ≡ map marked (take (i + 1) ms) → AllFit (take (i + 1 + 1) ms) × (calendar ds ≡ map marked (take (i + 1 + 1) ms))
one_other ms os first i m cs ds c is below at made put fit was =
    let long : length ms ≡ suc (length os) = ap length is in
    let one : i + 1 ≡ suc i = omega arith in
    let there : m ≡ get_or ms (i + 1) m = at ∙ sym (ap (λ l. get_or l (i + 1) m) is ∙ ap (λ k. get_or (first ∷ os) k m) one) in
    one_more ms (i + 1) m cs ds c (omega arith) there made put fit was

-- marks among the others that are not fit
pub unfit_other : (ms os : List Marks) (first : Marks) (i : ℕ) (m : Marks) → ms ≡ first ∷ os → i < length os → m ≡ get_or os i m → (Fit m → ⊥) → AllFit ms → ⊥
unfit_other ms os first i m is below at unfit fit =
    let long : length ms ≡ suc (length os) = ap length is in
    let one : i + 1 ≡ suc i = omega arith in
    let there : get_or ms (i + 1) m ≡ m = ap (λ l. get_or l (i + 1) m) is ∙ ap (λ k. get_or (first ∷ os) k m) one ∙ sym at in
    unfit (subst Fit there (fit (i + 1) m (omega arith)))

-- as many courses as marks that were gone through
pub made_many : (ms : List Marks) (n : ℕ) (cs : List Course) → n ≤ length ms → calendar cs ≡ map marked (take n ms) → length cs ≡ n
made_many ms n cs within was =
    let same = ap length was in
    omega (arith, length-map cs served, length-map (take n ms) marked, length-take n ms)
