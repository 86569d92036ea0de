-- Every part of a placed job sits on an engine.
use Rattle.std.proofs.Common.{◌≡◌, ℕ, zero, suc, ◌<◌, ◌≤◌, Bool, true, false, cond, ◌&&◌, eqb, leb, List, [], ◌∷◌, ◌++◌, map, length, get_or, IsSome, refl, sym, ap, ◌∙◌, inl, inr, arith}
use Rattle.few.specs.Few.{items}
use Rattle.plan.specs.declared.part.Task.{Task}
use Rattle.plan.specs.declared.plan.Plan.{Plan}
use Rattle.plan.specs.Part.{tagged, task_at, tasks_below}
use Rattle.plan.specs.Plan.{nodes_of}
use Rattle.resident.specs.declared.resident.Resident.{Resident}
use Rattle.resident.specs.declared.resident.Seat.{Seat}
use Rattle.resident.specs.Resident.{engine_among, engine_of}
use Rattle.resident.specs.Seats.{all_tags, has_part, some_task}
use Rattle.std.specs.List.{list_any}
use Rattle.std.proofs.lemmas.Bool.{and_parts, cases_Bool, cases_eq, eqb-true, leb-true}
use Rattle.std.proofs.lemmas.Bool.Decides.{nat_tests}
use Rattle.std.proofs.lemmas.List.{append-nil}
use Rattle.std.proofs.lemmas.Map.Views.{any-filter_same}
use Rattle.task.specs.declared.node.Node.{Node}
use Rattle.task.specs.declared.node.Node.TheVariants.{SubTask, Alternative, Conditional}
use Rattle.task.specs.Graph.{at}
use Rattle.task.specs.Ranges.{numbers_fit}

some_front : (xs ys : List Task) → some_task xs ≡ true → some_task (xs ++ ys) ≡ true
some_front [] ys some = absurd (let z : ◌≡◌ {A = Bool} false true = some in cc)
some_front (x ∷ xs) ys some = refl

some_behind : (xs : List Task) (y : Task) → some_task (xs ++ y ∷ []) ≡ true
some_behind [] y = refl
some_behind (x ∷ xs) y = refl

-- one node that passes is enough
pub some_below : (p : Plan) (t : ℕ → Bool) (n v : ℕ) → v < n → t v ≡ true → some_task (tasks_below p t n) ≡ true
some_below p t zero v low yes' = absurd (omega arith)
some_below p t (suc n) v low yes' = elim (cases_eq v n) [
  | inl same ↦ let here = ap t (sym same) ∙ yes' in rw here (some_behind (tasks_below p t n) (task_at p n))
  | inr ne ↦ some_front (tasks_below p t n) _ (some_below p t n v (omega arith) yes')
]

-- what is among the tags of seats has an engine
sits_among : (ss : List Seat) (g : ℕ) → list_any (λ h. eqb h g) (map (λ s. s.tag) ss) ≡ true → IsSome (engine_among ss g)
sits_among [] g any = absurd (let z : ◌≡◌ {A = Bool} false true = any in cc)
sits_among (s ∷ ss) g any = elim (cases_Bool (eqb s.tag g)) [
  | inl yes' ↦ rw yes' refl
  | inr no' ↦ rw no' (sits_among ss g (rw no' at any))
]

is_a_tag : (g : ℕ) → g ≤ 7 → list_any (λ h. eqb h g) all_tags ≡ true
is_a_tag g few = grind (arith, nat_tests)

pub every_part_sits : (r : Resident) (g : ℕ) → g ≤ 7 → has_part r.plan g ≡ true → IsSome (engine_of r g)
every_part_sits r g few has =
    let test : ℕ → Bool = λ h. eqb h g in
    let kept = any-filter_same test (has_part r.plan) true (λ h is. ap (has_part r.plan) (eqb-true h g is) ∙ has) all_tags in
    let seated = ap (list_any test) r.parts ∙ kept ∙ is_a_tag g few in
    sits_among (items r.seats) g seated

tag_few : (n : Node) (g : ℕ) → numbers_fit n ≡ true → tagged g n ≡ true → g ≤ 7
tag_few (SubTask tag work nodes) g fit is =
    omega (arith, eqb-true tag g is, leb-true tag 7 (and_parts (leb tag 7) (leb 1 work && leb work 14400) fit).0)
tag_few (Alternative nodes) g fit is = absurd (let z : ◌≡◌ {A = Bool} false true = is in cc)
tag_few (Conditional nodes) g fit is = absurd (let z : ◌≡◌ {A = Bool} false true = is in cc)

-- a node that passes is there where a sub-task is
some_found : (p : Plan) (t : ℕ → Bool) (n : ℕ) → some_task (tasks_below p t n) ≡ true → (v : ℕ) × (v < n) × (t v ≡ true)
some_found p t zero some = absurd (let z : ◌≡◌ {A = Bool} false true = some in cc)
some_found p t (suc n) some = elim (cases_Bool (t n)) [
  | inl yes' ↦ (n, omega arith, yes')
  | inr no' ↦
      let none : tasks_below p t (suc n) ≡ tasks_below p t n = ap (λ (b : Bool). tasks_below p t n ++ cond b (task_at p n ∷ []) []) no' ∙ append-nil (tasks_below p t n) in
      let (v, low, is) = some_found p t n (ap some_task (sym none) ∙ some) in
      (v, omega arith, is)
]

-- a part is of a tag that there is
pub part_few : (p : Plan) (g : ℕ) → has_part p g ≡ true → g ≤ 7
part_few p g has =
    let ns = nodes_of p in
    let (v, low, is) = some_found p (λ u. get_or p.members u false && tagged g (at ns u)) (length ns) has in
    tag_few (at ns v) g (p.job.ranged v low) (and_parts (get_or p.members v false) (tagged g (at ns v)) is).1

-- so does the part of each sub-task of the concrete graph
pub sub_task_sits : (r : Resident) (v g : ℕ) → v < length (nodes_of r.plan) → get_or r.plan.members v false ≡ true → tagged g (at (nodes_of r.plan) v) ≡ true → IsSome (engine_of r g)
sub_task_sits r v g low member is =
    let p = r.plan in
    let test : ℕ → Bool = λ u. get_or p.members u false && tagged g (at (nodes_of p) u) in
    every_part_sits r g (tag_few (at (nodes_of p) v) g (p.job.ranged v low) is)
    (some_below p test (length (nodes_of p)) v low (rw (member, is) refl))
