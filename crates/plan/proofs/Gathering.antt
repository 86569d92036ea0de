-- Gathering the sub-tasks of a tag, node by node.
use Rattle.std.proofs.Common.{◌≡◌, ℕ, zero, suc, ◌+◌, ◌≤◌, Bool, true, false, cond, List, [], ◌∷◌, ◌++◌, map, get_or, Some, None, Option, sym, refl, ap, ◌∙◌, append-nil, add-one, arith}
use Rattle.plan.specs.declared.part.Task.{Task}
use Rattle.plan.specs.declared.plan.Plan.{Plan}
use Rattle.plan.specs.Part.{task_at, tasks_below}

-- what a test gave
pub given_some : {X : Type 0} (b : Bool) (x y : X) (o : Option X) → o ≡ cond b (Some x) None → o ≡ Some y → (b ≡ true) × (y ≡ x)
given_some true x y o is was = (refl, cc)
given_some false x y o is was = let z : ◌≡◌ {A = Option _} None (Some y) = sym is ∙ was in absurd (let w : ◌≡◌ {A = ℕ} 0 1 = cc in omega arith)

pub given_none : {X : Type 0} (b : Bool) (x : X) (o : Option X) → o ≡ cond b (Some x) None → o ≡ None → b ≡ false
given_none true x o is was = absurd (let w : ◌≡◌ {A = ℕ} 0 1 = cc in omega arith)
given_none false x o is was = refl

module _ (p : Plan) (t : ℕ → Bool) (v : ℕ) (was : List Task) (inv : was ≡ tasks_below p t v) where
  pub gather_on : t v ≡ true → (x : Task) → x ≡ task_at p v → was ++ x ∷ [] ≡ tasks_below p t (v + 1)
  gather_on yes' x same =
      let next = ap (tasks_below p t) (add-one v) in
      let here : cond (t v) (task_at p v ∷ []) [] ≡ x ∷ [] = rw yes' (ap (λ y. y ∷ []) (sym same)) in
      ap (λ l. l ++ (x ∷ [])) inv ∙ ap (λ l. tasks_below p t v ++ l) (sym here) ∙ sym next

  pub gather_skip : t v ≡ false → was ≡ tasks_below p t (v + 1)
  gather_skip no' =
      let next = ap (tasks_below p t) (add-one v) in
      let here : cond (t v) (task_at p v ∷ []) [] ≡ [] = rw no' refl in
      inv ∙ sym (append-nil (tasks_below p t v)) ∙ ap (λ l. tasks_below p t v ++ l) (sym here) ∙ sym next

-- a bound on a value of each element stays
pub bound_push : {X : Type 0} (f : X → ℕ) (m : ℕ) (xs : List X) (x : X) → ((k : ℕ) → get_or (map f xs) k 0 ≤ m) → f x ≤ m → (k : ℕ) → get_or (map f (xs ++ x ∷ [])) k 0 ≤ m
bound_push f m [] x all here zero = here
bound_push f m [] x all here (suc k) = omega arith
bound_push f m (y ∷ xs) x all here zero = all 0
bound_push f m (y ∷ xs) x all here (suc k) = bound_push f m xs x (λ k'. all (suc k')) here k
