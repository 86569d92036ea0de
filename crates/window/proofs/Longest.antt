-- A table that settles has the longest paths.
use Rattle.std.proofs.Common.{◌≡◌, ℕ, zero, suc, ◌+◌, ◌-◌, ◌<◌, ◌≤◌, true, List, length, get_or, sym, subst, inl, inr, arith}
use Rattle.std.proofs.lemmas.Bool.{and_parts}
use Rattle.task.specs.declared.node.Node.{Node}
use Rattle.task.specs.declared.tables.Concrete.{Concrete}
use Rattle.task.specs.Concrete.{Member, next, IsConcrete}
use Rattle.task.specs.Graph.{edge}
use Rattle.task.specs.Nodes.{Sound}
use Rattle.task.specs.Picks.{by_choice, keeps}
use Rattle.task.specs.declared.node.Numbering.TheVariants.{Choice}
use Rattle.task.specs.Tables.{leads}
use Rattle.task.proofs.Places.{edge_inside}
use Rattle.task.proofs.Leading.{led_inside}
use Rattle.window.specs.Path.{Path, stay, step, LongestTo, LongestAfter}
use Rattle.window.specs.Recurrences.{Ascends, Settled}
use Rattle.window.proofs.Maxima.{greatest_at, greatest_found}
use Rattle.window.proofs.Paths.{path_end, path_front}

pub rises : (ns : List Node) → Sound ns → (c u v : ℕ) → by_choice ns c u v ≡ true → (u < v) × (v < length ns)
rises ns sound c u v k =
    let e = (and_parts (edge ns u v) (keeps Choice ns c u v) k).0 in
    (sound.upward u v e, edge_inside ns u v e)

pub member_inside : (ns : List Node) → Sound ns → (c v : ℕ) → Member ns c v → v < 24
member_inside ns sound c v m = omega (arith, led_inside (rises ns sound c) m, sound.few)

module _ (ns : List Node) (sound : Sound ns) (c : ℕ) (g : Concrete) (is : IsConcrete ns c g) where
  pub ascends : Ascends g.edges
  ascends u v y =
      let (up, inside) = rises ns sound c u v ((is.edges u v).0 y).1 in
      (up, omega (arith, sound.few))

  module _ (w : ℕ → ℕ) (ws : List ℕ) (weighs : (v : ℕ) → Member ns c v → get_or ws v 0 ≡ w v) (t : List ℕ) where
    pub to_bound : ((v : ℕ) → Settled (leads g.edges) ws t v) → {u v s : ℕ} → Path ns c w u v s → s ≤ get_or t v 0
    to_bound settled (stay {v} m) = omega (arith, weighs v m, settled v)
    to_bound settled (step {u} {v} {x} {s} p k) =
        let rec = to_bound settled p in
        let mv = path_end p in
        let most = greatest_at (λ a. leads g.edges a x) (λ a. get_or t a 0) 24 v (member_inside ns sound c v mv) ((is.edges v x).1 (mv, k)) in
        omega (arith, weighs x (next mv k), settled x)

    to_attained : ((v : ℕ) → Settled (leads g.edges) ws t v) → (k v : ℕ) → v < k → Member ns c v → (u : ℕ) × Path ns c w u v (get_or t v 0)
    to_attained settled zero v below m = absurd (omega arith)
    to_attained settled (suc k) v below m = elim (greatest_found (λ a. leads g.edges a v) (λ a. get_or t a 0) 24) [
      | inl none ↦ (v, subst (Path ns c w v v) (omega (arith, settled v, weighs v m, none.1)) (stay m))
      | inr some ↦
          let u = some.0 in
          let (mu, kept) = (is.edges u v).0 some.2 in
          let (a, p) = to_attained settled k u (omega (arith, (rises ns sound c u v kept).0)) mu in
          (a, subst (Path ns c w a v) (omega (arith, settled v, weighs v m, some.3)) (step p kept))
    ]

    pub longest_to : ((v : ℕ) → Settled (leads g.edges) ws t v) → (v : ℕ) → Member ns c v → LongestTo ns c w v (get_or t v 0)
    longest_to settled v m = record { bound = λ u s p. to_bound settled p; attained = to_attained settled (suc v) v (omega arith) m }

    from_bound : ((v : ℕ) → Settled (λ x u. leads g.edges u x) ws t v) → {u v s : ℕ} → Path ns c w u v s → s + get_or t v 0 ≤ get_or t u 0 + w v
    from_bound settled (stay {v} m) = omega arith
    from_bound settled (step {u} {v} {x} {s} p k) =
        let rec = from_bound settled p in
        let mv = path_end p in
        let mx = next mv k in
        let most = greatest_at (λ a. leads g.edges v a) (λ a. get_or t a 0) 24 x (member_inside ns sound c x mx) ((is.edges v x).1 (mv, k)) in
        omega (arith, weighs v mv, settled v)

    from_attained : ((v : ℕ) → Settled (λ x u. leads g.edges u x) ws t v) → (k v : ℕ) → 24 ≤ v + k → Member ns c v → (x : ℕ) × Path ns c w v x (get_or t v 0)
    from_attained settled zero v past m = absurd (omega (arith, member_inside ns sound c v m))
    from_attained settled (suc k) v past m = elim (greatest_found (λ a. leads g.edges v a) (λ a. get_or t a 0) 24) [
      | inl none ↦ (v, subst (Path ns c w v v) (omega (arith, settled v, weighs v m, none.1)) (stay m))
      | inr some ↦
          let u = some.0 in
          let (mv, kept) = (is.edges v u).0 some.2 in
          let (x, p) = from_attained settled k u (omega (arith, (rises ns sound c v u kept).0)) (next mv kept) in
          (x, subst (Path ns c w v x) (omega (arith, settled v, weighs v m, some.3)) (path_front m kept p))
    ]

    pub longest_after : ((v : ℕ) → Settled (λ x u. leads g.edges u x) ws t v) → (v : ℕ) → Member ns c v → LongestAfter ns c w v (get_or t v 0 - get_or ws v 0)
    longest_after settled v m =
        let whole : w v + (get_or t v 0 - get_or ws v 0) ≡ get_or t v 0 = omega (arith, settled v, weighs v m) in
        let (x, p) = from_attained settled 24 v (omega arith) m in
        record {
          bound = λ x s p. omega (arith, from_bound settled p, settled x, weighs x (path_end p));
          attained = (x, subst (Path ns c w v x) (sym whole) p);
        }
