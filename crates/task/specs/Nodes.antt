-- What makes a job sound.
--   fork_fits ns v    the node v is no fork, or has an edge in and two or three out
--   few_forks ns      at most four alternatives and four conditionals
--   Below v us        every node of us is below v
--   NumbersFit ns     the numbers of every node lie in their ranges
--   ForksFit ns       every fork is right
--   Sound ns          the nodes of a job
use Rattle.std.specs.Prelude.{◌≡◌, ℕ, ◌<◌, ◌≤◌, Bool, true, false, cond, ◌&&◌, List, length, nat_le, slice_index_or}
use Rattle.task.specs.declared.node.Node.{Node}
use Rattle.task.specs.Node.{is_fork, is_alternative, is_conditional}
use Rattle.task.specs.Ranges.{numbers_fit}
use Rattle.task.specs.Graph.{at, Upward, count_below, ins, outs}

abbrev pub fork_fits : List Node → ℕ → Bool
fork_fits ns v = cond (is_fork (at ns v)) (nat_le 1 (ins ns v) && (nat_le 2 (outs ns v) && nat_le (outs ns v) 3)) true

abbrev pub few_forks : List Node → Bool
few_forks ns =
    nat_le (count_below (λ v. is_alternative (at ns v)) (length ns)) 4
    && nat_le (count_below (λ v. is_conditional (at ns v)) (length ns)) 4

abbrev pub Below : ℕ → List Bool → Type 0
Below v us = (u : ℕ) → slice_index_or us u false ≡ true → u < v

abbrev pub NumbersFit : List Node → Type 0
NumbersFit ns = (v : ℕ) → v < length ns → numbers_fit (at ns v) ≡ true

abbrev pub ForksFit : List Node → Type 0
ForksFit ns = (v : ℕ) → fork_fits ns v ≡ true

pub record Sound (ns : List Node) : Type 0 where
  pub some : 1 ≤ length ns
  pub few : length ns ≤ 24
  pub ranged : NumbersFit ns
  pub upward : Upward ns
  pub forked : ForksFit ns
  pub few_forked : few_forks ns ≡ true
