-- Tables of tests and of nodes: what stands past their end.
use Rattle.std.proofs.Common.{◌≡◌, ℕ, ◌+◌, ◌<◌, ◌≤◌, Bool, true, false, ◌≢◌, List, [], length, get_or, set, refl, sym, ap, ◌∙◌, inl, inr, arith}
use Rattle.std.proofs.lemmas.List.{get_or_past, get_or-set_same, get_or-set_other}
use Rattle.std.proofs.lemmas.Bool.{cases_lt, cases_eq, both_ways}
use Rattle.task.specs.declared.node.Node.{Node}
use Rattle.task.specs.declared.node.Numbering.{Numbering}
use Rattle.task.specs.declared.node.Numbering.TheVariants.{Choice, Branch}
use Rattle.task.specs.Graph.{at, edge}
use Rattle.task.specs.Node.{after, missing, covers, is_alternative, is_conditional}
use Rattle.task.specs.Tables.{leads}

-- a test that is true stands in the table
pub true_inside : (us : List Bool) (u : ℕ) → get_or us u false ≡ true → u < length us
true_inside us u y = elim (cases_lt u (length us)) [
  | inl inside ↦ inside
  | inr past ↦ absurd (both_ways (get_or us u false) (get_or_past us u false past) y)
]

-- an edge leads to a node that is there
pub edge_inside : (ns : List Node) (u v : ℕ) → edge ns u v ≡ true → v < length ns
edge_inside ns u v y = elim (cases_lt v (length ns)) [
  | inl inside ↦ inside
  | inr past ↦ absurd (both_ways (edge ns u v) (ap (λ n. get_or (after n) u false) (get_or_past ns v missing past)) y)
]

-- past the rows of a table there is no edge
pub no_row : (rows : List (List Bool)) (u v : ℕ) → length rows ≤ v → leads rows u v ≡ false
no_row rows u v past = ap (λ row. get_or row u false) (get_or_past rows v [] past)

-- where there is no node, no number picks an edge
pub missing_free : (m : Numbering) (ns : List Node) (u : ℕ) → length ns ≤ u → covers m (at ns u) ≡ false
missing_free Choice ns u past = ap is_alternative (get_or_past ns u missing past)
missing_free Branch ns u past = ap is_conditional (get_or_past ns u missing past)

pub missing_uncovered : (m : Numbering) → covers m missing ≡ false
missing_uncovered Choice = refl
missing_uncovered Branch = refl

-- a table of edges with another row at v
pub row_other : (was : List (List Bool)) (v : ℕ) (row : List Bool) (u w : ℕ) → w ≢ v → leads (set was v row) u w ≡ leads was u w
row_other was v row u w ne = ap (λ r. get_or r u false) (get_or-set_other was v w row [] ne)

pub row_set : (was : List (List Bool)) (v : ℕ) (row : List Bool) → v < length was → (F : ℕ → ℕ → Bool) → ((w : ℕ) → w < v → (u : ℕ) → leads was u w ≡ F u w)
    → ((u : ℕ) → get_or row u false ≡ F u v) → (w : ℕ) → w < v + 1 → (u : ℕ) → leads (set was v row) u w ≡ F u w
row_set was v row room F before here w below u = elim (cases_eq w v) [
  | inl e ↦ ap (λ k. leads (set was v row) u k) e ∙ ap (λ r. get_or r u false) (get_or-set_same was v row [] room) ∙ here u ∙ ap (λ k. F u k) (sym e)
  | inr ne ↦ row_other was v row u w ne ∙ before w (omega arith) u
]

-- a table of edges, row by row
pub rows_of : (rows : List (List Bool)) (F : ℕ → ℕ → Bool) → length rows ≡ 24 → ((v : ℕ) → v < 24 → (u : ℕ) → leads rows u v ≡ F u v) → ((u v : ℕ) → 24 ≤ v → F u v ≡ false) → (u v : ℕ) → leads rows u v ≡ F u v
rows_of rows F long here none u v = elim (cases_lt v 24) [
  | inl below ↦ here v below u
  | inr past ↦ no_row rows u v (omega arith) ∙ sym (none u v past)
]

-- a table with 24 rows has no edge to a node from 24 on
pub none_past : (rows : List (List Bool)) → length rows ≡ 24 → (u v : ℕ) → 24 ≤ v → leads rows u v ≡ false
none_past rows long u v past = no_row rows u v (omega arith)

pub no_edge : (ns : List Node) → length ns ≤ 24 → (u v : ℕ) → 24 ≤ v → edge ns u v ≡ false
no_edge ns few u v past = ap (λ n. get_or (after n) u false) (get_or_past ns v missing (omega arith))
