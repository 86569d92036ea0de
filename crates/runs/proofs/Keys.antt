-- Keys: a job number and a node name one open sub-task at most.
use Rattle.std.proofs.Common.{◌≡◌, ℕ, ◌<◌, ◌≤◌, Bool, true, false, ◌&&◌, ◌==◌, nat_eq, Option, List, [], ◌∷◌, map, length, count_by, refl, sym, ◌∙◌, inl, inr, arith}
use Rattle.std.specs.List.{AllByRecursion}
use Rattle.std.proofs.lemmas.Bool.{and_left, cases_Bool, eqb-false, eqb-true, ne_eqb}
use Rattle.std.proofs.lemmas.List.Sums.{sum_by-append, sum_by-cons}
use Rattle.runs.specs.Job.{Apart, branch_of}
use Rattle.runs.specs.State.{each, Slot, tasks_of}
use Rattle.runs.specs.Next.{Key}
use Rattle.runs.specs.Events.{advance, arrive_at, arrived, granted, opened, same}
use Rattle.runs.proofs.Lists.{all_at, all_both, all_flat, all_from_mem, all_map, all_unmap, all_weaker, cond_both}
use Rattle.runs.proofs.Sums.{bit, count_none, sum_le_each, sum_map}
use Rattle.runs.proofs.Slots.{granted_parts}

-- what the open sub-tasks of a slot are named by
pub record Keyed (s : Slot) : Type 0 where
  pub own : AllByRecursion (λ p. p.task.job ≡ s.job.number) s.tasks
  pub once : (n : ℕ) → count_by (λ p. n == p.task.node) s.tasks ≤ 1
  pub nodes : AllByRecursion (Apart (λ w. w.node)) s.job.branches

apart_none : {X : Type 0} (key : X → ℕ) (n : ℕ) (xs : List X) → AllByRecursion (λ y. key y ≡ n → ⊥) xs → count_by (λ x. nat_eq n (key x)) xs ≡ 0
apart_none key n xs a = count_none (λ x. nat_eq n (key x)) xs (all_weaker (λ y. key y ≡ n → ⊥) (λ x. nat_eq n (key x) ≡ false) (λ x h. ne_eqb _ _ (λ q. h (sym q))) xs a)

apart_once : {X : Type 0} (key : X → ℕ) (xs : List X) → Apart key xs → (n : ℕ) → count_by (λ x. nat_eq n (key x)) xs ≤ 1
apart_once key [] a n = omega arith
apart_once key (x ∷ xs) a n = elim (cases_Bool (nat_eq n (key x))) [
  | inl y ↦
      let e = eqb-true n (key x) y in
      let none = apart_none key n xs (rw e a.0) in
      let one : bit (nat_eq n (key x)) ≡ 1 = rw y refl in
      omega (arith, sum_by-cons (λ x. bit (nat_eq n (key x))) x xs)
  | inr off ↦
      let zero : bit (nat_eq n (key x)) ≡ 0 = rw off refl in
      omega (arith, apart_once key xs a.1 n, sum_by-cons (λ x. bit (nat_eq n (key x))) x xs)
]

pub apart_map : {X Y : Type 0} (key : Y → ℕ) (f : X → Y) (xs : List X) → Apart key (map f xs) → Apart (λ x. key (f x)) xs
apart_map key f [] a = tt
apart_map key f (x ∷ xs) a = (all_unmap (λ y. key y ≡ key (f x) → ⊥) f xs a.0, apart_map key f xs a.1)

foreign : (q : Key) (s : Slot) → Keyed s → (s.job.number ≡ q.job → ⊥) → AllByRecursion (λ p. same q p.task ≡ false) s.tasks
foreign q s k ne = all_weaker (λ p. p.task.job ≡ s.job.number) (λ p. same q p.task ≡ false)
    (λ p own. and_left _ _ (ne_eqb _ _ (λ e. ne (sym own ∙ sym e)))) s.tasks k.own

pub once_in_all : (q : Key) (slots : List Slot) → Apart (λ s. s.job.number) slots → AllByRecursion Keyed slots → count_by (λ p. same q p.task) (tasks_of slots) ≤ 1
once_in_all q [] a k = omega arith
once_in_all q (s ∷ slots) a k = elim (cases_Bool (nat_eq q.job s.job.number)) [
  | inl y ↦
      let e = eqb-true q.job s.job.number y in
      let none = count_none (λ p. same q p.task) (tasks_of slots) (all_flat (λ p. same q p.task ≡ false) (λ s. s.tasks) slots
      (all_both (λ r. r.job.number ≡ s.job.number → ⊥) Keyed (λ r. AllByRecursion (λ p. same q p.task ≡ false) r.tasks) (λ r ne kr. foreign q r kr (λ z. ne (z ∙ e))) slots a.0 k.1)) in
      let here = sum_le_each (λ p. bit (same q p.task)) (λ p. bit (nat_eq q.node p.task.node)) (λ p. less (nat_eq q.job p.task.job) (nat_eq q.node p.task.node)) s.tasks in
      omega (arith, sum_by-append (λ p. bit (same q p.task)) s.tasks (tasks_of slots), k.0.once q.node)
  | inr off ↦
      let none = count_none (λ p. same q p.task) s.tasks (foreign q s k.0 (λ z. eqb-false _ _ off (sym z))) in
      omega (arith, sum_by-append (λ p. bit (same q p.task)) s.tasks (tasks_of slots), once_in_all q slots a.1 k.1)
]
  where
    less : (a b : Bool) → bit (a && b) ≤ bit b
    less true b = omega arith
    less false true = omega arith
    less false false = omega arith

-- an arrival
arrived_keyed : (t b : ℕ) (s : Slot) → Keyed s → b < length s.job.branches → Keyed (arrived t b s)
arrived_keyed t b s k l = record {
  own = all_map (λ p. p.task.job ≡ s.job.number) (opened s.job.number t) (branch_of s.job b) (all_from_mem _ (branch_of s.job b) (λ _ _. refl));
  once = λ n. omega (
    arith,
    sum_map (λ p. bit (nat_eq n p.task.node)) (opened s.job.number t) (branch_of s.job b),
    apart_once (λ w. w.node) (branch_of s.job b) (all_at (Apart (λ w. w.node)) s.job.branches b [] l k.nodes) n,
  );
  nodes = k.nodes;
}

module _ (engines t j b : ℕ) where
  pub arrive_keyed : (s : Slot) → Keyed s → Keyed (arrive_at t j b s)
  arrive_keyed s k = cond_both (granted t j b s) (arrived t b s) s Keyed (λ y. arrived_keyed t b s k (granted_parts engines t j b s y).0) (λ _. k)

pub each_keyed : (choice : ℕ → Option Key) (on done : ℕ → Bool) (s : Slot) → Keyed s → Keyed (each (advance choice on done) s)
each_keyed choice on done s k = record {
  own = all_map (λ p. p.task.job ≡ s.job.number) (advance choice on done) s.tasks k.own;
  once = λ n. omega (arith, sum_map (λ p. bit (nat_eq n p.task.node)) (advance choice on done) s.tasks, k.once n);
  nodes = k.nodes;
}
