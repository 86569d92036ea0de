-- A job's graph is the list of its nodes.
--   at ns v            the node v
--   edge ns u v        v comes after u
--   Upward ns          every edge leads to a higher node
--   count_below p n    how many numbers below n pass the test p
--   ins ns v, outs ns u, rank ns u v    edges into v; edges out of u; edges out of u to nodes below v
use Rattle.std.specs.Prelude.{◌≡◌, ℕ, zero, suc, ◌+◌, ◌<◌, Bool, true, false, cond, List, length, slice_index_or}
use Rattle.task.specs.declared.node.Node.{Node}
use Rattle.task.specs.Node.{after, missing}

abbrev pub at : List Node → ℕ → Node
at ns v = slice_index_or ns v missing

abbrev pub edge : List Node → ℕ → ℕ → Bool
edge ns u v = slice_index_or (after (at ns v)) u false

abbrev pub Upward : List Node → Type 0
Upward ns = (u v : ℕ) → edge ns u v ≡ true → u < v

abbrev pub count_below : (ℕ → Bool) → ℕ → ℕ
count_below p zero = 0
count_below p (suc n) = count_below p n + cond (p n) 1 0

abbrev pub ins : List Node → ℕ → ℕ
ins ns v = count_below (λ u. edge ns u v) v

abbrev pub rank : List Node → ℕ → ℕ → ℕ
rank ns u v = count_below (λ w. edge ns u w) v

abbrev pub outs : List Node → ℕ → ℕ
outs ns u = rank ns u (length ns)
