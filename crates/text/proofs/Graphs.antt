-- The lines of nodes.
use Rattle.std.proofs.Common.{◌≡◌, ℕ, suc, ◌+◌, ◌-◌, ◌<◌, List, [], ◌∷◌, ◌++◌, length, replicate, sym, ap, ◌∙◌, subst, inl, inr, add-zero, zero-add, arith}
use Rattle.std.proofs.lemmas.List.{append_assoc, append-nil, length-append, length-replicate, get_or_append_left, get_or_push}
use Rattle.std.proofs.lemmas.Bool.{cases_lt}
use Rattle.task.specs.declared.node.Node.{Node}
use Rattle.task.specs.Graph.{at}
use Rattle.task.specs.Node.{missing}
use Rattle.text.specs.declared.fault.Fault.{Fault}
use Rattle.text.specs.JobText.{NodeFits, NodesFit, node_slots, nodes_slots}
use Rattle.text.specs.Slots.{Took, Stops}
use Rattle.text.proofs.Following.{took_append, stops_after, stops_more}

nodes_append : (k : ℕ) (ms ns : List Node) → nodes_slots k (ms ++ ns) ≡ nodes_slots k ms ++ nodes_slots (k + length ms) ns
nodes_append k [] ns = ap (λ x. nodes_slots x ns) (sym (add-zero k))
nodes_append k (m ∷ ms) ns =
    ap (λ xs. node_slots k m ++ xs) (nodes_append (suc k) ms ns ∙ ap (λ x. nodes_slots (suc k) ms ++ nodes_slots x ns) (omega arith))
    ∙ sym (append_assoc (node_slots k m) (nodes_slots (suc k) ms) (nodes_slots (k + suc (length ms)) ns))

nodes_front : (ms ns : List Node) → nodes_slots 0 (ms ++ ns) ≡ nodes_slots 0 ms ++ nodes_slots (length ms) ns
nodes_front ms ns = nodes_append 0 ms ns ∙ ap (λ x. nodes_slots 0 ms ++ nodes_slots x ns) (zero-add (length ms))

-- one more node is read
pub nodes_more : (v : ℕ) (ns : List Node) (n : Node) (bs : List ℕ) (b : ℕ) (cs : List ℕ) (c : ℕ) (ds : List ℕ) (d : ℕ) → length ns ≡ v → Took (nodes_slots 0 ns) bs b cs c → Took (node_slots v n) cs c ds d → Took (nodes_slots 0 (ns ++ n ∷ [])) bs b ds d
nodes_more v ns n bs b cs c ds d long was more =
    let same : nodes_slots 0 (ns ++ n ∷ []) ≡ nodes_slots 0 ns ++ node_slots v n =
    nodes_front ns (n ∷ []) ∙ ap (λ xs. nodes_slots 0 ns ++ xs) (append-nil (node_slots (length ns) n) ∙ ap (λ x. node_slots x n) long) in
    subst (λ ss. Took ss bs b ds d) (sym same) (took_append (nodes_slots 0 ns) (node_slots v n) bs b cs c ds d was more)

pub nodes_stop : (v count : ℕ) (ns : List Node) (n : Node) (bs : List ℕ) (b : ℕ) (cs : List ℕ) (c : ℕ) (f : Fault) → v < count → length ns ≡ v → Took (nodes_slots 0 ns) bs b cs c → Stops (node_slots v n) cs c f → (ns : List Node) × (length ns ≡ count) × Stops (nodes_slots 0 ns) bs b f
nodes_stop v count ns n bs b cs c f l long was stop =
    let later = replicate (count - suc v) missing in (
      ns ++ n ∷ later,
      omega (arith, length-append ns (n ∷ later), length-replicate (count - suc v) missing),
      subst (λ ss. Stops ss bs b f) (sym (nodes_front ns (n ∷ later) ∙ ap (λ x. nodes_slots 0 ns ++ nodes_slots x (n ∷ later)) long))
          (stops_after (nodes_slots 0 ns) (node_slots v n ++ nodes_slots (suc v) later) bs b cs c f was
          (stops_more (node_slots v n) (nodes_slots (suc v) later) cs c f stop)),
    )

pub fits_more : (v : ℕ) (ns : List Node) (n : Node) → length ns ≡ v → NodesFit ns → NodeFits v n → NodesFit (ns ++ n ∷ [])
fits_more v ns n long was here u h = elim (cases_lt u (length ns)) [
  | inl l ↦ subst (NodeFits u) (sym (get_or_append_left ns (n ∷ []) missing u l)) (was u l)
  | inr l ↦
      let last : u ≡ v = omega (arith, h, length-append ns (n ∷ [])) in
      subst (λ x. NodeFits x (at (ns ++ n ∷ []) x)) (sym last) (subst (NodeFits v) (sym (get_or_push ns n missing v long)) here)
]
