-- What a plan's sub-tasks ask is well formed: every window opens before it closes, and closes by the deadline.
use Rattle.std.proofs.Common.{◌≡◌, ℕ, zero, suc, ◌%◌, ◌<◌, ◌≤◌, Bool, true, false, cond, ◌&&◌, eqb, leb, List, [], ◌∷◌, ◌++◌, map, length, get_or, filter, ap, inl, inr, arith}
use lib.ListN.{length-map}
use Rattle.plan.specs.declared.part.Task.{Task}
use Rattle.plan.specs.declared.plan.Plan.{Plan}
use Rattle.plan.specs.Part.{part_of, task_at, tasks_below, tasks_where, tagged}
use Rattle.plan.specs.Pattern.{branch_of, part_pattern, pattern_of, window_of}
use Rattle.plan.specs.Plan.{nodes_of, reached_rows}
use Rattle.std.specs.List.{AllByRecursion}
use Rattle.std.proofs.lemmas.List.{get_or_past}
use Rattle.std.proofs.lemmas.Bool.{and_parts, cases_Bool, cases_lt, eqb-true, leb-true}
use Rattle.task.specs.declared.node.Node.{Node}
use Rattle.task.specs.declared.node.Node.TheVariants.{SubTask, Alternative, Conditional}
use Rattle.task.specs.Graph.{at}
use Rattle.task.specs.Node.{missing, is_sub_task, ticks}
use Rattle.task.specs.Ranges.{numbers_fit}
use Rattle.theory.specs.Pattern.{FitsIn, WellFormed, Window}

pub period_divides : (p : Plan) → 14400 % p.job.period ≡ 0
period_divides p = eqb-true _ 0 (and_parts (leb 1 p.job.period) (eqb (14400 % p.job.period) 0) p.job.periodic).1

node_work : (n : Node) → numbers_fit n ≡ true → ticks n ≤ 14400
node_work (SubTask tag work nodes) fit = leb-true work 14400 (and_parts (leb 1 work) (leb work 14400) (and_parts (leb tag 7) (leb 1 work && leb work 14400) fit).1).1
node_work (Alternative nodes) fit = omega arith
node_work (Conditional nodes) fit = omega arith

node_some : (n : Node) → numbers_fit n ≡ true → is_sub_task n ≡ true → 1 ≤ ticks n
node_some (SubTask tag work nodes) fit is = leb-true 1 work (and_parts (leb 1 work) (leb work 14400) (and_parts (leb tag 7) (leb 1 work && leb work 14400) fit).1).0
node_some (Alternative nodes) fit is = absurd (let z : ◌≡◌ {A = ℕ} 0 1 = cc in omega arith)
node_some (Conditional nodes) fit is = absurd (let z : ◌≡◌ {A = ℕ} 0 1 = cc in omega arith)

pub task_light : (p : Plan) (v : ℕ) → ticks (at (nodes_of p) v) ≤ 14400
task_light p v = elim (cases_lt v (length (nodes_of p))) [
  | inl inside ↦ node_work (at (nodes_of p) v) (p.job.ranged v inside)
  | inr past ↦ omega (arith, ap ticks (get_or_past (nodes_of p) v missing past))
]

pub all_append : (Q : Task → Type 0) (xs ys : List Task) → AllByRecursion Q xs → AllByRecursion Q ys → AllByRecursion Q (xs ++ ys)
all_append Q [] ys a b = b
all_append Q (x ∷ xs) ys (a, as') b = (a, all_append Q xs ys as' b)

-- what holds of each node that passes holds of each sub-task that is taken
pub all_below : (Q : Task → Type 0) (p : Plan) (t : ℕ → Bool) (n : ℕ) → ((v : ℕ) → v < n → t v ≡ true → Q (task_at p v)) → AllByRecursion Q (tasks_below p t n)
all_below Q p t zero each = tt
all_below Q p t (suc n) each =
    all_append Q (tasks_below p t n) (cond (t n) (task_at p n ∷ []) [])
    (all_below Q p t n (λ v low yes'. each v (omega arith) yes'))
    (elim (cases_Bool (t n)) [
      | inl yes' ↦ rw yes' (each n (omega arith) yes', tt)
      | inr no' ↦ rw no' tt
    ])

pub kept_all : (Q : Task → Type 0) (t : Task → Bool) (xs : List Task) → AllByRecursion Q xs → AllByRecursion Q (filter t xs)
kept_all Q t [] all = tt
kept_all Q t (x ∷ xs) (a, all) = elim (cases_Bool (t x)) [
  | inl yes' ↦ rw yes' (a, kept_all Q t xs all)
  | inr no' ↦ rw no' (kept_all Q t xs all)
]

pub all_map : {X Y : Type 0} (Q : Y → Type 0) (f : X → Y) (xs : List X) → AllByRecursion (λ x. Q (f x)) xs → AllByRecursion Q (map f xs)
all_map Q f [] all = tt
all_map Q f (x ∷ xs) (a, all) = (a, all_map Q f xs all)

all_rows : (Q : List Window → Type 0) (f : List Bool → List Window) (rows : List (List Bool)) → ((row : List Bool) → Q (f row)) → AllByRecursion Q (map f rows)
all_rows Q f [] each = tt
all_rows Q f (row ∷ rows) each = (each row, all_rows Q f rows each)

module _ (p : Plan) (t : Node → Bool) (only : (n : Node) → t n ≡ true → is_sub_task n ≡ true) where
  pub tasks_fit : AllByRecursion (λ x. FitsIn p.job.deadline (window_of x)) (tasks_where p t)
  tasks_fit = all_below (λ x. FitsIn p.job.deadline (window_of x)) p (λ v. get_or p.members v false && t (at (nodes_of p) v)) (length (nodes_of p)) (λ v low yes'.
      let (member, passes) = and_parts (get_or p.members v false) (t (at (nodes_of p) v)) yes' in
      let is = only (at (nodes_of p) v) passes in
      let some = node_some (at (nodes_of p) v) (p.job.ranged v low) is in
      record { opens = omega (arith, p.roomy v member is); closes = p.timely v member is })

  pub pattern_formed : WellFormed (pattern_of p (tasks_where p t))
  pattern_formed = record {
    some_time = leb-true 1 p.job.deadline (and_parts (leb 1 p.job.deadline) (leb p.job.deadline p.job.period) p.job.due).0;
    within_period = leb-true p.job.deadline p.job.period (and_parts (leb 1 p.job.deadline) (leb p.job.deadline p.job.period) p.job.due).1;
    some_branch = omega (arith, length-map (reached_rows p) (branch_of (tasks_where p t)), p.some);
    windows = all_rows (AllByRecursion (FitsIn p.job.deadline)) (branch_of (tasks_where p t)) (reached_rows p) (λ row.
        all_map (FitsIn p.job.deadline) window_of (filter (λ (x : Task). get_or row x.node false) (tasks_where p t))
        (kept_all (λ x. FitsIn p.job.deadline (window_of x)) (λ (x : Task). get_or row x.node false) (tasks_where p t) tasks_fit));
  }

tagged_only : (g : ℕ) (n : Node) → tagged g n ≡ true → is_sub_task n ≡ true
tagged_only g (SubTask tag work nodes) is = mathlib.Core.Path.refl
tagged_only g (Alternative nodes) is = absurd (let z : ◌≡◌ {A = ℕ} 0 1 = cc in omega arith)
tagged_only g (Conditional nodes) is = absurd (let z : ◌≡◌ {A = ℕ} 0 1 = cc in omega arith)

pub part_formed : (p : Plan) (g : ℕ) → WellFormed (part_pattern p g)
part_formed p g = pattern_formed p (tagged g) (tagged_only g)

-- every window of a part, of a branch or of none, opens before it closes and closes by the deadline
pub part_fits : (p : Plan) (g : ℕ) → AllByRecursion (λ x. FitsIn p.job.deadline (window_of x)) (part_of p g)
part_fits p g = tasks_fit p (tagged g) (tagged_only g)
