-- The arrivals of a slot: what they ask of an engine, and that they are arrivals of its pattern.
use Rattle.std.proofs.Common.{◌≡◌, ℕ, zero, suc, ◌-◌, ◌<◌, ◌≤◌, Bool, List, [], ◌∷◌, map, reverse, filter, length, get_or, sum_by, refl, ap, ◌∙◌, arith}
use mathlib.Core.List.{reverse_aux}
use Rattle.std.specs.List.{AllByRecursion}
use Rattle.std.proofs.lemmas.List.{length-map}
use Rattle.theory.specs.Pattern.{Arrival, Arrivals, demand_in, FitsIn, From, part, share, WellFormed}
use Rattle.runs.specs.Job.{branch_of, Job, on_engine, pattern_on, Sound, SoundTask, SubTask, window_of}
use Rattle.runs.specs.Events.{free_at}
use Rattle.runs.proofs.Lists.{all_map, all_weaker, cond_both}
use Rattle.runs.proofs.Sums.{sum_filter, sum_map, sum_reverse}
use Rattle.runs.proofs.Tasks.{share_of}

-- the newest first: each at least a period after the one before, and of a branch of the job
abbrev pub Legal : Job → List Arrival → Type 0
Legal j [] = Unit {0}
Legal j (a ∷ older) = (free_at j older ≤ a.time) × (a.branch < length j.branches) × Legal j older

get_or_map : {X Y : Type 0} (f : X → Y) (xs : List X) (k : ℕ) (d : X) → get_or (map f xs) k (f d) ≡ f (get_or xs k d)
get_or_map f [] k d = refl
get_or_map f (x ∷ xs) zero d = refl
get_or_map f (x ∷ xs) (suc k) d = get_or_map f xs k d

pub part_is : (e x y : ℕ) (j : Job) (a : Arrival) → part (pattern_on e j) x y a ≡ sum_by (share_of e x y a.time) (branch_of j a.branch)
part_is e x y j a =
    let here : List SubTask = branch_of j a.branch in
    let f = share (x - a.time) (y - a.time) in
    ap (sum_by f) (get_or_map (λ branch. map window_of (filter (on_engine e) branch)) j.branches a.branch [])
    ∙ sum_map f window_of (filter (on_engine e) here)
    ∙ sum_filter (λ s. f (window_of s)) (on_engine e) here

all_filter : {X : Type 0} (P : X → Type 0) (p : X → Bool) (xs : List X) → AllByRecursion P xs → AllByRecursion P (filter p xs)
all_filter P p [] a = tt
all_filter P p (x ∷ xs) a = cond_both (p x) (x ∷ filter p xs) (filter p xs) (AllByRecursion P) (λ _. (a.0, all_filter P p xs a.1)) (λ _. all_filter P p xs a.1)

module _ (engines e : ℕ) (j : Job) (sound : Sound engines j) where
  pub well_formed : WellFormed (pattern_on e j)
  well_formed = record {
    some_time = sound.some_time;
    within_period = sound.within_period;
    some_branch = omega (arith, sound.some_branch, length-map j.branches (λ branch. map window_of (filter (on_engine e) branch)));
    windows = all_map (AllByRecursion (FitsIn j.deadline)) (λ branch. map window_of (filter (on_engine e) branch)) j.branches
        (all_weaker (AllByRecursion (SoundTask engines j.deadline)) (λ branch. AllByRecursion (FitsIn j.deadline) (map window_of (filter (on_engine e) branch)))
        (λ branch ss. all_map (FitsIn j.deadline) window_of (filter (on_engine e) branch)
        (all_weaker (SoundTask engines j.deadline) (λ s. FitsIn j.deadline (window_of s)) (λ s k. record { opens = k.opens; closes = k.closes }) (filter (on_engine e) branch)
        (all_filter (SoundTask engines j.deadline) (on_engine e) branch ss)))
        j.branches sound.tasks);
  }

module _ (e : ℕ) (j : Job) where
  pub branches_are : length (pattern_on e j).branches ≡ length j.branches
  branches_are = length-map j.branches (λ branch. map window_of (filter (on_engine e) branch))

  -- the oldest first, with later ones after them
  legal_then : (l later : List Arrival) → Legal j l → From (pattern_on e j) (free_at j l) later → Arrivals (pattern_on e j) (reverse_aux l later)
  legal_then [] later h f = f
  legal_then (a ∷ older) later h f = legal_then older (a ∷ later) h.2 (h.0, omega (arith, h.1, branches_are), f)

  pub legal_arrivals : (l : List Arrival) → Legal j l → Arrivals (pattern_on e j) (reverse l)
  legal_arrivals l h = legal_then l [] h tt

  -- and the newest first again
  then_legal : (l older : List Arrival) → From (pattern_on e j) (free_at j older) l → Legal j older → Legal j (reverse_aux l older)
  then_legal [] older f h = h
  then_legal (a ∷ rest) older f h = then_legal rest (a ∷ older) f.2 (f.0, omega (arith, f.1, branches_are), h)

  pub arrivals_legal : (l : List Arrival) → Arrivals (pattern_on e j) l → Legal j (reverse l)
  arrivals_legal l f = then_legal l [] f tt

  pub demand_reverse : (l : List Arrival) (x y : ℕ) → demand_in (pattern_on e j) (reverse l) x y ≡ demand_in (pattern_on e j) l x y
  demand_reverse l x y = sum_reverse (part (pattern_on e j) x y) l
