-- Which sub-task an engine runs next.
--   Key                when a sub-task is due, the number of its job, and its node
--   key_of t           these of the sub-task t
--   ready e t p        whether p is pending on the engine e and released by the clock t
--   before k l         the earlier due comes first, then the lower job, then the lower node
--   sooner k o         the first of k and what was found so far
--   better e t o p     the same, if p is ready
--   next e t ps        the first of those that are ready on the engine e
--   NotAfter k l       k is due no later than l; where both are due together, its job is no higher; and of the same job, its node is no higher
--   IsNext e t ps k    k is the key of one that is ready on the engine e, and comes after none of those
use Rattle.std.specs.Prelude.{◌≡◌, ℕ, ◌≤◌, Bool, true, cond, ◌&&◌, ◌||◌, ◌==◌, nat_le, nat_lt, List, fold, Option, Some, None, Any}
use Rattle.std.specs.List.{AllByRecursion}
use Rattle.runs.specs.State.{is_pending, OpenTask, Task}

pub record Key : Type 0 where
  pub due : ℕ
  pub job : ℕ
  pub node : ℕ

abbrev pub key_of : Task → Key
key_of t = record { due = t.due; job = t.job; node = t.node }

abbrev pub ready : ℕ → ℕ → OpenTask → Bool
ready e t p = is_pending p.phase && ((p.task.engine == e) && nat_le p.task.release t)

abbrev pub before : Key → Key → Bool
before k l = nat_lt k.due l.due || ((k.due == l.due) && (nat_lt k.job l.job || ((k.job == l.job) && nat_lt k.node l.node)))

abbrev pub sooner : Key → Option Key → Option Key
sooner k None = Some k
sooner k (Some l) = cond (before k l) (Some k) (Some l)

abbrev pub better : ℕ → ℕ → Option Key → OpenTask → Option Key
better e t o p = cond (ready e t p) (sooner (key_of p.task) o) o

abbrev pub next : ℕ → ℕ → List OpenTask → Option Key
next e t ps = fold (better e t) None ps

pub record NotAfter (k l : Key) : Type 0 where
  pub due : k.due ≤ l.due
  pub job : k.due ≡ l.due → k.job ≤ l.job
  pub node : k.due ≡ l.due → k.job ≡ l.job → k.node ≤ l.node

pub record IsNext (e t : ℕ) (ps : List OpenTask) (k : Key) : Type 0 where
  pub found : Any (λ p. (ready e t p ≡ true) × (key_of p.task ≡ k)) ps
  pub first : AllByRecursion (λ p. ready e t p ≡ true → NotAfter k (key_of p.task)) ps
