-- What is made of a part's sub-tasks states what the part asks.
use Rattle.std.proofs.Common.{◌≡◌, ℕ, ◌+◌, ◌≤◌, max, Bool, false, List, [], ◌∷◌, ◌++◌, map, length, refl, ap, sym, ◌∙◌, arith, inl, inr}
use Rattle.std.specs.Prelude.{filter, slice_index_or}
use Rattle.std.specs.List.{All, AllByRecursion, AllZip}
use Rattle.std.specs.List.Sorted.{IsPermutation}
use Rattle.std.proofs.lemmas.Bool.{cases_Bool}
use Rattle.std.proofs.lemmas.List.Elements.{All-nil, All-cons}
use Rattle.std.proofs.lemmas.List.Sorted.{All-permutation}
use Rattle.few.specs.Few.{items}
use Rattle.claim.specs.declared.claim.Claim.{Claim}
use Rattle.claim.specs.declared.claim.Cut.{Cut}
use Rattle.claim.specs.Claim.{Claims, Cuts}
use Rattle.claim.specs.Making.{CutOf, CutsOf, most_within}
use Rattle.claim.proofs.Reaching.{few_ends}
use Rattle.claim.proofs.Stairs.{end_of, greatest_map, stair_is}
use Rattle.plan.specs.declared.part.Task.{Task}
use Rattle.plan.specs.declared.plan.Plan.{Plan}
use Rattle.plan.specs.Pattern.{branch_of, pattern_of, window_of}
use Rattle.plan.specs.Plan.{reached_rows}
use Rattle.theory.specs.Demand.{at_cut, at_cut_quick, best, demand, greatest}
use Rattle.theory.specs.Pattern.{FitsIn, Pattern, WellFormed, inner}
use Rattle.theory.proofs.Greatest.{most_at}
use Rattle.theory.proofs.Quick.{demand_is_quick}

pub zip_push : {A B : Type 0} (R : A → B → Type 0) (xs : List A) (ys : List B) (x : A) (y : B) → AllZip R xs ys → R x y → AllZip R (xs ++ x ∷ []) (ys ++ y ∷ [])
zip_push R [] [] x y all one = (one, tt)
zip_push R [] (b ∷ ys) x y all one = absurd all
zip_push R (a ∷ xs) [] x y all one = absurd all
zip_push R (a ∷ xs) (b ∷ ys) x y all one = (all.0, zip_push R xs ys x y all.1 one)

pub zip_length : {A B : Type 0} (R : A → B → Type 0) (xs : List A) (ys : List B) → AllZip R xs ys → length ys ≡ length xs
zip_length R [] [] all = refl
zip_length R [] (b ∷ ys) all = absurd all
zip_length R (a ∷ xs) [] all = absurd all
zip_length R (a ∷ xs) (b ∷ ys) all = let rec = zip_length R xs ys all.1 in omega arith

zip_all : {A B : Type 0} (R : A → B → Type 0) (P : B → Type 0) → ((x : A) (y : B) → R x y → P y) → (xs : List A) (ys : List B) → AllZip R xs ys → All P ys
zip_all R P each [] [] all = All-nil P
zip_all R P each [] (b ∷ ys) all = absurd all
zip_all R P each (a ∷ xs) [] all = absurd all
zip_all R P each (a ∷ xs) (b ∷ ys) all = All-cons P b ys (each a b all.0) (zip_all R P each xs ys all.1)

zip_greatest : {A B : Type 0} (R : A → B → Type 0) (f : A → ℕ) (g : B → ℕ) → ((x : A) (y : B) → R x y → g y ≡ f x) → (xs : List A) (ys : List B) → AllZip R xs ys → greatest g ys ≡ greatest f xs
zip_greatest R f g each [] [] all = refl
zip_greatest R f g each [] (b ∷ ys) all = absurd all
zip_greatest R f g each (a ∷ xs) [] all = absurd all
zip_greatest R f g each (a ∷ xs) (b ∷ ys) all =
    let rec = zip_greatest R f g each xs ys all.1 in
    omega (arith, each a b all.0)

greatest_kept : {X : Type 0} (f : X → ℕ) (t : X → Bool) (xs : List X) → greatest f (filter t xs) ≤ greatest f xs
greatest_kept f t [] = omega arith
greatest_kept f t (x ∷ xs) =
    let rec = greatest_kept f t xs in
    elim (cases_Bool (t x)) [
      | inl yes' ↦ rw yes' (omega arith)
      | inr no' ↦ rw no' (omega arith)
    ]

greatest_low : {X : Type 0} (P : X → Type 0) (f : X → ℕ) (m : ℕ) → ((x : X) → P x → f x ≤ m) → (xs : List X) → AllByRecursion P xs → greatest f xs ≤ m
greatest_low P f m low [] all = omega arith
greatest_low P f m low (x ∷ xs) all = let rec = greatest_low P f m low xs all.1 in omega (arith, low x all.0)

greatest_alike : {X : Type 0} (f g : X → ℕ) → ((x : X) → f x ≡ g x) → (xs : List X) → greatest f xs ≡ greatest g xs
greatest_alike f g alike [] = refl
greatest_alike f g alike (x ∷ xs) = let rec = greatest_alike f g alike xs in omega (arith, alike x)

each_low : {X : Type 0} (f : X → ℕ) (m : ℕ) → ((x : X) → f x ≤ m) → (xs : List X) → greatest f xs ≤ m
each_low f m low [] = omega arith
each_low f m low (x ∷ xs) = let rec = each_low f m low xs in omega (arith, low x)

-- the ends of windows that fit in a deadline are at most that
pub ends_within : (d : ℕ) (ts : List Task) (es : List ℕ) → AllByRecursion (λ x. FitsIn d (window_of x)) ts → IsPermutation (map end_of ts) es → All (λ e. e ≤ d) es
ends_within d ts es fits same = All-permutation (λ e. e ≤ d) (map end_of ts) es same (each ts fits)
  where
    each : (xs : List Task) → AllByRecursion (λ x. FitsIn d (window_of x)) xs → All (λ e. e ≤ d) (map end_of xs)
    each [] all = All-nil (λ e. e ≤ d)
    each (x ∷ xs) all = All-cons (λ e. e ≤ d) (end_of x) (map end_of xs) all.0.closes (each xs all.1)

module _ (p : Plan) (ts : List Task) (formed : WellFormed (pattern_of p ts)) (fits : AllByRecursion (λ x. FitsIn p.job.deadline (window_of x)) ts) where
  abbrev rows : List (List Bool)
  rows = reached_rows p

  abbrev asked : Pattern
  asked = pattern_of p ts

  best_is : (u y : ℕ) → best asked u y ≡ most_within ts rows u y
  best_is u y = greatest_map (λ ws. inner ws u y) (branch_of ts) rows

  quick_same : (n u : ℕ) → at_cut_quick asked n u ≡ at_cut asked n u
  quick_same n u = ap (λ v. best asked u (u + n) + v) (sym ((demand_is_quick asked formed).0 (u + n)))

  module _ (c : Claim) (ends : IsPermutation (map end_of ts) (items c.ends)) where
    cut_states : (u : ℕ) (k : Cut) → CutOf ts rows (items c.ends) u k → Cuts asked c k
    cut_states u k is y =
        stair_is ts rows u (items c.ends) k.most ends (omega (arith, few_ends c, k.placed)) is.beside y
        ∙ sym (best_is u y)
        ∙ ap (λ v. best asked v y) (sym is.its_moment)

    module _ (cuts : CutsOf ts rows (items c.ends) (items c.cuts)) (n : ℕ) where
      abbrev at_cuts : ℕ
      at_cuts = greatest (λ k. at_cut asked n k.«from») (items c.cuts)

      at_offsets : at_cuts ≡ greatest (λ t. at_cut asked n t.window.offset) ts
      at_offsets =
          zip_greatest (λ t k. CutOf ts rows (items c.ends) t.window.offset k) (λ t. at_cut asked n t.window.offset) (λ k. at_cut asked n k.«from»)
          (λ t k is. ap (at_cut asked n) is.its_moment) ts (items c.cuts) cuts

      branch_low : (row : List Bool) → greatest (λ w. at_cut_quick asked n w.offset) (branch_of ts row) ≤ greatest (λ t. at_cut asked n t.window.offset) ts
      branch_low row =
          let reached : Task → Bool = λ t. slice_index_or row t.node false in
          let windows = greatest_map (λ w. at_cut_quick asked n w.offset) window_of (filter reached ts) in
          let kept = greatest_kept (λ t. at_cut_quick asked n t.window.offset) reached ts in
          let same = greatest_alike (λ t. at_cut_quick asked n t.window.offset) (λ t. at_cut asked n t.window.offset) (λ t. quick_same n t.window.offset) ts in
          omega arith

      enough : max (at_cut asked n 0) at_cuts ≡ demand asked n
      enough =
          let first = most_at (at_cut asked n) asked.deadline 0 formed.some_time in
          let low = greatest_low (λ x. FitsIn p.job.deadline (window_of x)) (λ t. at_cut asked n t.window.offset) (demand asked n)
          (λ t w. most_at (at_cut asked n) asked.deadline t.window.offset (omega (arith, w.opens, w.closes))) ts fits in
          let rows' = greatest_map (λ ws. greatest (λ w. at_cut_quick asked n w.offset) ws) (branch_of ts) rows in
          let high = each_low (λ row. greatest (λ w. at_cut_quick asked n w.offset) (branch_of ts row)) (greatest (λ t. at_cut asked n t.window.offset) ts) branch_low rows in
          omega (arith, (demand_is_quick asked formed).1 n, quick_same n 0, at_offsets)

    pub claims_made : c.period ≡ p.job.period → c.deadline ≡ p.job.deadline → c.whole ≡ most_within ts rows 0 p.job.deadline
        → CutOf ts rows (items c.ends) 0 c.arrival → CutsOf ts rows (items c.ends) (items c.cuts) → Claims asked c
    claims_made period deadline whole arrival cuts = record {
      its_period = period;
      its_deadline = deadline;
      its_whole = whole ∙ sym (best_is 0 p.job.deadline);
      at_arrival = arrival.its_moment;
      from_arrival = cut_states 0 c.arrival arrival;
      from_cuts = zip_all (λ t k. CutOf ts rows (items c.ends) t.window.offset k) (Cuts asked c) (λ t k is. cut_states t.window.offset k is) ts (items c.cuts) cuts;
      enough = λ n. enough cuts n;
    }
