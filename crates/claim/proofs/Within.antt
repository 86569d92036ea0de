-- The work of the sub-tasks that a row reaches, of the windows between two moments.
use Rattle.std.proofs.Common.{◌≡◌, ℕ, zero, suc, ◌+◌, ◌*◌, ◌<◌, ◌≤◌, Bool, true, false, cond, ◌&&◌, List, [], ◌∷◌, map, length, refl, arith, inl, inr}
use Rattle.std.specs.Prelude.{filter, nat_le, sum_by, slice_index, slice_index_or}
use Rattle.std.specs.List.{All}
use Rattle.std.proofs.lemmas.Bool.{cases_Bool}
use Rattle.std.proofs.lemmas.List.{length-take}
use Rattle.std.proofs.lemmas.List.Elements.{All-head, All-tail}
use Rattle.std.proofs.lemmas.List.Sums.{sum_by-cons}
use Rattle.claim.specs.Making.{most_within}
use Rattle.plan.specs.declared.part.Part.{Part}
use Rattle.plan.specs.declared.part.Task.{Task}
use Rattle.plan.specs.Part.{tasks_in}
use Rattle.plan.specs.Pattern.{branch_of, window_of}
use Rattle.theory.specs.Pattern.{inner, share}

abbrev pub taken : List Bool → ℕ → ℕ → Task → Bool
taken row u y t = slice_index_or row t.node false && (nat_le u t.window.offset && nat_le t.window.deadline y)

step : (r i : Bool) (n s m : ℕ) → s ≡ m → cond (r && i) (n + s) s ≡ cond r (cond i n 0 + m) m
step true true n s m e = omega arith
step true false n s m e = omega arith
step false i n s m e = omega arith

taken_cond : (b : Bool) (t : Task) (ts : List Task) → sum_by (λ (x : Task). x.ticks) (cond b (t ∷ ts) ts) ≡ cond b (t.ticks + sum_by (λ (x : Task). x.ticks) ts) (sum_by (λ (x : Task). x.ticks) ts)
taken_cond true t ts = sum_by-cons (λ (x : Task). x.ticks) t ts
taken_cond false t ts = refl

pub branch_cond : (r : Bool) (u y : ℕ) (t : Task) (ts : List Task) → inner (map window_of (cond r (t ∷ ts) ts)) u y ≡ cond r (share u y (window_of t) + inner (map window_of ts) u y) (inner (map window_of ts) u y)
branch_cond true u y t ts = sum_by-cons (share u y) (window_of t) (map window_of ts)
branch_cond false u y t ts = refl

pub within_is : (row : List Bool) (u y : ℕ) (ts : List Task) → sum_by (λ (t : Task). t.ticks) (filter (taken row u y) ts) ≡ inner (branch_of ts row) u y
within_is row u y [] = refl
within_is row u y (t ∷ ts) =
    let rec = within_is row u y ts in
    let reached : Task → Bool = λ (x : Task). slice_index_or row x.node false in
    let turn = step (reached t) (nat_le u t.window.offset && nat_le t.window.deadline y) t.ticks _ _ rec in
    let left = taken_cond (taken row u y t) t (filter (taken row u y) ts) in
    let right = branch_cond (reached t) u y t (filter reached ts) in
    omega arith

pub within_light : (p : Task → Bool) (m : ℕ) (ts : List Task) → All (λ (t : Task). t.ticks ≤ m) ts → sum_by (λ (t : Task). t.ticks) (filter p ts) ≤ length ts * m
within_light p m [] all = omega arith
within_light p m (t ∷ ts) all =
    let rec = within_light p m ts (All-tail (λ (x : Task). x.ticks ≤ m) t ts all) in
    let here = All-head (λ (x : Task). x.ticks ≤ m) t ts all in
    let turn = taken_cond (p t) t (filter p ts) in
    elim (cases_Bool (p t)) [
      | inl yes' ↦ rw yes' (omega (arith, sum_by-cons (λ (x : Task). x.ticks) t (filter p ts)))
      | inr no' ↦ rw no' (omega arith)
    ]

-- the sub-tasks of a part are at most 24, and none has more than a belt cycle's ticks
pub record Slight (ts : List Task) : Type 0 where
  pub few : length ts ≤ 24
  pub light : All (λ (t : Task). t.ticks ≤ 14400) ts

pub inner_light : (row : List Bool) (u y : ℕ) (ts : List Task) → Slight ts → inner (branch_of ts row) u y ≤ 345600
inner_light row u y ts slight =
    let most = within_light (taken row u y) 14400 ts slight.light in
    let is = within_is row u y ts in
    let few = slight.few in
    omega (arith, most, is)

pub most_light : (rows : List (List Bool)) (u y : ℕ) (ts : List Task) → Slight ts → most_within ts rows u y ≤ 345600
most_light [] u y ts slight = omega arith
most_light (row ∷ rows) u y ts slight =
    let rec = most_light rows u y ts slight in
    omega (arith, inner_light row u y ts slight)

ticks_at : (ts : List Task) (k : ℕ) (d : Task) → k < length ts → slice_index (map (λ (t : Task). t.ticks) ts) k ≡ (slice_index_or ts k d).ticks
ticks_at [] k d below = absurd (omega arith)
ticks_at (t ∷ ts) zero d below = refl
ticks_at (t ∷ ts) (suc k) d below = ticks_at ts k d (omega arith)

pub slight_of : (q : Part) → Slight (tasks_in q)
slight_of q = record {
  few = omega (arith, q.tasks.fits, q.tasks.sized, length-take q.tasks.len q.tasks.places);
  light = λ k d below. omega (arith, q.light k, ticks_at (tasks_in q) k d below);
}
