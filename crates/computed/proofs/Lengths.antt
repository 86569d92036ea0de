-- The computed lengths are those of the longest paths.
use Rattle.std.proofs.Common.{◌≡◌, ℕ, ◌+◌, ◌-◌, ◌<◌, true, false, cond, List, length, get_or, refl, sym, ap, ◌∙◌, subst, inl, inr, arith}
use Rattle.std.proofs.lemmas.Bool.{cases_lt}
use Rattle.task.specs.declared.node.Node.{Node}
use Rattle.task.specs.declared.tables.Concrete.{Concrete}
use Rattle.task.specs.Concrete.{IsConcrete, Member}
use Rattle.task.specs.Graph.{at}
use Rattle.task.specs.Nodes.{Sound}
use Rattle.task.specs.Tables.{leads}
use Rattle.task.proofs.Leading.{led_inside}
use Rattle.window.specs.declared.layout.Longest.{Longest}
use Rattle.window.specs.declared.layout.Measure.{Measure}
use Rattle.window.specs.declared.layout.Measure.TheVariants.{Work, Count}
use Rattle.window.specs.Greatest.{greatest}
use Rattle.window.specs.Lengths.{IsLengths, LargestOf, outside}
use Rattle.window.specs.Path.{counts, LongestAfter, LongestTo, weigh, work}
use Rattle.window.specs.Recurrences.{Ascends, Settled, WeightsOf}
use Rattle.window.proofs.Longest.{ascends, longest_after, longest_to, rises}
use Rattle.window.proofs.Maxima.{greatest_same}
use Rattle.window.proofs.Settling.{settled_past}
use Rattle.window.proofs.Weighing.{from_nowhere, largest_of, to_nowhere, weighs}
use Rattle.computed.specs.Lengths.{lengths, onwards, to, weights}
use Rattle.computed.proofs.Tables.{each_at, each_past, falling_at, length-each, length-falling, length-rising, LooksBack, LooksOn, rising_at}

pub weights_made : (m : Measure) (ns : List Node) (g : Concrete) → WeightsOf m ns g.members (weights m ns g)
weights_made m ns g = (
  (λ v low. each_at (λ u. cond (get_or g.members u false) (weigh m (at ns u)) 0) (length ns) v 0 low),
  (λ v past. each_past (λ u. cond (get_or g.members u false) (weigh m (at ns u)) 0) (length ns) v 0 past),
)

module _ (g : Concrete) (ascends : Ascends g.edges) (n : ℕ) (inside : (u v : ℕ) → leads g.edges u v ≡ true → v < n) (ws : List ℕ) (short : length ws ≡ n) where
  to_back : LooksBack (λ (t : ℕ → ℕ) v. get_or ws v 0 + greatest (λ u. leads g.edges u v) t 24)
  to_back a b v same = ap (λ k. get_or ws v 0 + k) (greatest_same (λ u. leads g.edges u v) a b 24 (λ u low y. same u (ascends u v y).0))

  pub to_settled : (v : ℕ) → Settled (leads g.edges) ws (to g ws n) v
  to_settled v = elim (cases_lt v n) [
    | inl low ↦ rising_at 0 (λ (t : ℕ → ℕ) w. get_or ws w 0 + greatest (λ u. leads g.edges u w) t 24) to_back n v low
    | inr past ↦
        settled_past (leads g.edges) ws (to g ws n) v (omega arith) (omega (arith, length-rising 0 (λ (t : ℕ → ℕ) w. get_or ws w 0 + greatest (λ u. leads g.edges u w) t 24) n))
        (λ u y. omega (arith, inside u v y))
  ]

  onwards_on : LooksOn (λ (t : ℕ → ℕ) v. get_or ws v 0 + greatest (λ u. leads g.edges v u) t 24)
  onwards_on a b v same = ap (λ k. get_or ws v 0 + k) (greatest_same (λ u. leads g.edges v u) a b 24 (λ u low y. same u (ascends v u y).0))

  pub onwards_settled : (v : ℕ) → Settled (λ x u. leads g.edges u x) ws (onwards g ws n) v
  onwards_settled v = elim (cases_lt v n) [
    | inl low ↦ falling_at 0 (λ (t : ℕ → ℕ) w. get_or ws w 0 + greatest (λ u. leads g.edges w u) t 24) onwards_on n v low
    | inr past ↦
        settled_past (λ x u. leads g.edges u x) ws (onwards g ws n) v (omega arith) (omega (arith, length-falling 0 (λ (t : ℕ → ℕ) w. get_or ws w 0 + greatest (λ u. leads g.edges w u) t 24) n 0))
        (λ u y. omega (arith, inside v u y, (ascends v u y).0))
  ]

largest_same : (ns : List Node) (c : ℕ) (f h : ℕ → ℕ) (G : ℕ) → ((v : ℕ) → h v ≡ f v) → LargestOf ns c f G → LargestOf ns c h G
largest_same ns c f h G same is = record {
  bound = λ v m. omega (arith, is.bound v m, same v);
  attained = let (v, m, e) = is.attained in (v, m, same v ∙ e);
}

module _ (ns : List Node) (sound : Sound ns) (c : ℕ) (g : Concrete) (is : IsConcrete ns c g) where
  lead_inside : (u v : ℕ) → leads g.edges u v ≡ true → v < length ns
  lead_inside u v y = (rises ns sound c u v ((is.edges u v).0 y).1).1

  pub lengths_are : IsLengths ns c (lengths ns g)
  lengths_are =
      let ws = weights Work ns g in
      let cs = weights Count ns g in
      let n = length ns in
      let work-made = weights_made Work ns g in
      let count-made = weights_made Count ns g in
      let work-is = weighs ns sound c g is Work ws work-made in
      let count-is = weighs ns sound c g is Count cs count-made in
      let climbs = ascends ns sound c g is in
      let heads = to g ws n in
      let froms = onwards g ws n in
      let levels = to g cs n in
      let long-w = length-each (λ v. cond (get_or g.members v false) (weigh Work (at ns v)) 0) n in
      let long-c = length-each (λ v. cond (get_or g.members v false) (weigh Count (at ns v)) 0) n in
      let heads-settled = to_settled g climbs n lead_inside ws long-w in
      let froms-settled = onwards_settled g climbs n lead_inside ws long-w in
      let levels-settled = to_settled g climbs n lead_inside cs long-c in
      let F : ℕ → Longest = λ v. record { head = get_or heads v 0; tail = get_or froms v 0 - get_or ws v 0; level = get_or levels v 0 } in
      let Row : ℕ → Longest → Type 0 = λ v y. (y.head ≡ get_or heads v 0) × (y.tail ≡ get_or froms v 0 - get_or ws v 0) × (y.level ≡ get_or levels v 0) in
      let row : (v : ℕ) → Row v (get_or (lengths ns g).nodes v outside) = λ v. elim (cases_lt v n) [
        | inl low ↦
            let here = each_at F n v outside low in
            (ap (λ (y : Longest). y.head) here, ap (λ (y : Longest). y.tail) here, ap (λ (y : Longest). y.level) here)
        | inr past ↦
            let none = each_past F n v outside past in
            let out : Member ns c v → ⊥ = λ m. omega (arith, led_inside (rises ns sound c) m) in (
              ap (λ (y : Longest). y.head) none ∙ sym (to_nowhere ns sound c g is Work ws work-made heads heads-settled v out),
              ap (λ (y : Longest). y.tail) none ∙ sym (from_nowhere ns sound c g is Work ws work-made froms froms-settled v out),
              ap (λ (y : Longest). y.level) none ∙ sym (to_nowhere ns sound c g is Count cs count-made levels levels-settled v out),
            )
      ] in
      record {
        heads = λ v m. subst (LongestTo ns c (work ns) v) (sym (row v).0) (longest_to ns sound c g is (work ns) ws work-is heads heads-settled v m);
        tails = λ v m. subst (LongestAfter ns c (work ns) v) (sym (row v).1) (longest_after ns sound c g is (work ns) ws work-is froms froms-settled v m);
        levels = λ v m. subst (LongestTo ns c (counts ns) v) (sym (row v).2) (longest_to ns sound c g is (counts ns) cs count-is levels levels-settled v m);
        nowhere = λ v out. (
          (row v).0 ∙ to_nowhere ns sound c g is Work ws work-made heads heads-settled v out,
          (row v).1 ∙ from_nowhere ns sound c g is Work ws work-made froms froms-settled v out,
          (row v).2 ∙ to_nowhere ns sound c g is Count cs count-made levels levels-settled v out,
        );
        span = largest_same ns c _ _ _ (λ v. (row v).0) (largest_of ns sound c g is (λ u. get_or heads u 0) (lengths ns g).span refl);
        depth = largest_same ns c _ _ _ (λ v. (row v).2) (largest_of ns sound c g is (λ u. get_or levels u 0) (lengths ns g).depth refl);
      }
