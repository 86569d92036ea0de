-- The weights of a concrete graph, what stands at the nodes outside it, and its largest values.
use Rattle.std.proofs.Common.{◌≡◌, ℕ, ◌-◌, ◌≤◌, true, false, cond, ◌&&◌, leb, List, length, get_or, sym, ap, ◌∙◌, inl, inr, arith}
use Rattle.std.proofs.lemmas.Bool.{and_parts, leb-true, cases_Bool, cases_lt, true≢false}
use Rattle.task.specs.declared.node.Node.{Node}
use Rattle.task.specs.declared.node.Node.TheVariants.{SubTask, Alternative, Conditional}
use Rattle.task.specs.declared.tables.Concrete.{Concrete}
use Rattle.task.specs.Concrete.{Member, first, next, IsConcrete}
use Rattle.task.specs.Graph.{at, edge}
use Rattle.task.specs.Nodes.{Sound}
use Rattle.task.specs.Ranges.{numbers_fit}
use Rattle.task.specs.Tables.{leads}
use Rattle.task.proofs.Leading.{led_inside}
use Rattle.window.specs.declared.layout.Measure.{Measure}
use Rattle.window.specs.declared.layout.Measure.TheVariants.{Work, Count}
use Rattle.window.specs.Greatest.{greatest}
use Rattle.window.specs.Lengths.{LargestOf}
use Rattle.window.specs.Path.{weigh}
use Rattle.window.specs.Recurrences.{Light, Settled, WeightsOf}
use Rattle.window.proofs.Longest.{rises, member_inside}
use Rattle.window.proofs.Maxima.{greatest_at, greatest_found, greatest_zero}

weigh_light : (m : Measure) (n : Node) → numbers_fit n ≡ true → weigh m n ≤ 14400
weigh_light Work (SubTask tag ticks nodes) fit =
    let (t, w) = and_parts (leb tag 7) (leb 1 ticks && leb ticks 14400) fit in
    leb-true ticks 14400 (and_parts (leb 1 ticks) (leb ticks 14400) w).1
weigh_light Work (Alternative nodes) fit = omega arith
weigh_light Work (Conditional nodes) fit = omega arith
weigh_light Count (SubTask tag ticks nodes) fit = omega arith
weigh_light Count (Alternative nodes) fit = omega arith
weigh_light Count (Conditional nodes) fit = omega arith

module _ (ns : List Node) (sound : Sound ns) (c : ℕ) (g : Concrete) (is : IsConcrete ns c g) where
  -- node 0 has no edge in
  root : Member ns c 0
  root = first {v = 0} (omega (arith, sound.some)) (λ u. elim (cases_Bool (edge ns u 0)) [ inl y ↦ absurd (omega (arith, sound.upward u 0 y)) | inr n ↦ n ])

  pub largest_of : (value : ℕ → ℕ) (G : ℕ) → G ≡ greatest (λ u. get_or g.members u false) value 24 → LargestOf ns c value G
  largest_of value G e = record {
    bound = λ v m. omega (arith, greatest_at (λ u. get_or g.members u false) value 24 v (member_inside ns sound c v m) ((is.nodes v).1 m));
    attained = elim (greatest_found (λ u. get_or g.members u false) value 24) [
      | inl none ↦ absurd (true≢false (sym ((is.nodes 0).1 root) ∙ none.0 0 (omega arith)))
      | inr some ↦ (some.0, (is.nodes some.0).0 some.2, some.3 ∙ sym e)
    ];
  }

  module _ (m : Measure) (ws : List ℕ) (made : WeightsOf m ns g.members ws) where
    pub weighs : (v : ℕ) → Member ns c v → get_or ws v 0 ≡ weigh m (at ns v)
    weighs v mem = made.0 v (led_inside (rises ns sound c) mem) ∙ ap (λ b. cond b (weigh m (at ns v)) 0) ((is.nodes v).1 mem)

    pub weightless : (v : ℕ) → (Member ns c v → ⊥) → get_or ws v 0 ≡ 0
    weightless v out = elim (cases_lt v (length ns)) [
      | inl below ↦ elim (cases_Bool (get_or g.members v false)) [
        | inl y ↦ absurd (out ((is.nodes v).0 y))
        | inr n ↦ made.0 v below ∙ ap (λ b. cond b (weigh m (at ns v)) 0) n
      ]
      | inr past ↦ made.1 v past
    ]

    pub light : Light ws
    light v = elim (cases_lt v (length ns)) [
      | inl below ↦ elim (cases_Bool (get_or g.members v false)) [
        | inl y ↦ omega (arith, made.0 v below ∙ ap (λ b. cond b (weigh m (at ns v)) 0) y, weigh_light m (at ns v) (sound.ranged v below))
        | inr n ↦ omega (arith, made.0 v below ∙ ap (λ b. cond b (weigh m (at ns v)) 0) n)
      ]
      | inr past ↦ omega (arith, made.1 v past)
    ]

    pub to_nowhere : (t : List ℕ) → ((v : ℕ) → Settled (leads g.edges) ws t v) → (v : ℕ) → (Member ns c v → ⊥) → get_or t v 0 ≡ 0
    to_nowhere t settled v out =
        omega (
          arith,
          settled v,
          weightless v out,
          greatest_zero (λ a. leads g.edges a v) (λ a. get_or t a 0) 24 (λ u y. out (next ((is.edges u v).0 y).0 ((is.edges u v).0 y).1)),
        )

    pub from_nowhere : (t : List ℕ) → ((v : ℕ) → Settled (λ x u. leads g.edges u x) ws t v) → (v : ℕ) → (Member ns c v → ⊥) → get_or t v 0 - get_or ws v 0 ≡ 0
    from_nowhere t settled v out =
        omega (
          arith,
          settled v,
          weightless v out,
          greatest_zero (λ a. leads g.edges v a) (λ a. get_or t a 0) 24 (λ u y. out ((is.edges v u).0 y).0),
        )
