use Rattle.std.proofs.Common.{◌≡◌, ℕ, ◌-◌, List, get_or, sym, ap, ◌∙◌, subst, inl, inr, arith, rules}
use Rattle.task.specs.declared.node.Node.{Node}
use Rattle.task.specs.declared.tables.Concrete.{Concrete}
use Rattle.std.proofs.lemmas.Bool.{cases_lt}
use Rattle.std.proofs.lemmas.List.{get_or_past}
use Rattle.few.proofs.Filled.{filled}
use Rattle.task.specs.Concrete.{IsConcrete, Member}
use Rattle.task.specs.Flaws.{graph}
use Rattle.task.specs.Nodes.{Sound}
use Rattle.window.specs.declared.layout.Measure.{Measure}
use Rattle.window.specs.declared.layout.Measure.TheVariants.{Work, Count}
use Rattle.window.specs.declared.layout.Longest.{Longest}
use Rattle.window.specs.Lengths.{LargestOf, outside}
use Rattle.window.specs.Path.{LongestAfter, LongestTo, work, counts}
use Rattle.window.specs.Recurrences.{Ascends, Light, WeightsOf}
use Rattle.window.proofs.Longest.{ascends, longest_to, longest_after, member_inside}
use Rattle.window.proofs.Weighing.{light, weighs, to_nowhere, from_nowhere, largest_of}
use Rattle.window.proofs.layout.Lengths.of.Goals as goal

ready : (ns graph : List Node) → ns ≡ graph → Sound ns → (choice : ℕ) (g : Concrete) → IsConcrete graph choice g → (m : Measure) (ws : List ℕ) → WeightsOf m ns g.members ws → Ascends g.edges × Light ws
ready ns graph e sound choice g is m ws made =
    let sound' = subst Sound e sound in
    (ascends graph sound' choice g is, light graph sound' choice g is m ws (subst (λ (l : List Node). WeightsOf m l g.members ws) e made))

largest_same : (ns : List Node) (c : ℕ) (f h : ℕ → ℕ) (G : ℕ) → ((v : ℕ) → h v ≡ f v) → LargestOf ns c f G → LargestOf ns c h G
largest_same ns c f h G same is = record {
  bound = λ v m. omega (arith, is.bound v m, same v);
  attained = let (v, m, e) = is.attained in (v, m, same v ∙ e);
}

pub longest_to-head-requires : goal.longest_to-head-requires
longest_to-head-requires c =
    ready c.graph-nodes.result.now (graph c.args.job.now) c.graph-nodes.ensures.nodes c.graph-nodes.ensures.sound c.args.choice c.concrete-concrete.result c.concrete-concrete.ensures
    Work c.weights-work.result c.weights-work.ensures

pub longest_from-from-requires : goal.longest_from-from-requires
longest_from-from-requires c =
    ready c.graph-nodes.result.now (graph c.args.job.now) c.graph-nodes.ensures.nodes c.graph-nodes.ensures.sound c.args.choice c.concrete-concrete.result c.concrete-concrete.ensures
    Work c.weights-work.result c.weights-work.ensures

pub longest_to-level-requires : goal.longest_to-level-requires
longest_to-level-requires c =
    ready c.graph-nodes.result.now (graph c.args.job.now) c.graph-nodes.ensures.nodes c.graph-nodes.ensures.sound c.args.choice c.concrete-concrete.result c.concrete-concrete.ensures
    Count c.weights-count.result c.weights-count.ensures

pub returns : goal.returns
returns c =
    let ns = graph c.args.job.now in
    let k = c.args.choice in
    let g = c.concrete-concrete.result in
    let is = c.concrete-concrete.ensures in
    let e = c.graph-nodes.ensures.nodes in
    let sound = subst Sound e c.graph-nodes.ensures.sound in
    let ws = c.weights-work.result in
    let cs = c.weights-count.result in
    let work-made = subst (λ (l : List Node). WeightsOf Work l g.members ws) e c.weights-work.ensures in
    let count-made = subst (λ (l : List Node). WeightsOf Count l g.members cs) e c.weights-count.ensures in
    let work-is = weighs ns sound k g is Work ws work-made in
    let count-is = weighs ns sound k g is Count cs count-made in
    let heads = c.longest_to-head.result in
    let froms = c.longest_from-from.result in
    let levels = c.longest_to-level.result in
    let Row : ℕ → Longest → Type 0 = λ v y. (y.head ≡ get_or heads v 0) × (y.tail ≡ get_or froms v 0 - get_or ws v 0) × (y.level ≡ get_or levels v 0) in
    let made = c.from_fn.ensures.items in
    let row : (v : ℕ) → Row v (get_or c.from_fn.result v outside) = λ v. elim (cases_lt v 24) [
      | inl short ↦ filled made Row (λ i y f below k. search rules) v outside short
      | inr long ↦
          let none = get_or_past c.from_fn.result v outside (omega (arith, made.long)) in
          let out : Member ns k v → ⊥ = λ m. omega (arith, member_inside ns sound k v m) in (
            ap (λ (y : Longest). y.head) none ∙ sym (to_nowhere ns sound k g is Work ws work-made heads c.longest_to-head.ensures v out),
            ap (λ (y : Longest). y.tail) none ∙ sym (from_nowhere ns sound k g is Work ws work-made froms c.longest_from-from.ensures v out),
            ap (λ (y : Longest). y.level) none ∙ sym (to_nowhere ns sound k g is Count cs count-made levels c.longest_to-level.ensures v out),
          )
    ] in
    record {
      heads = λ v m. subst (LongestTo ns k (work ns) v) (sym (row v).0) (longest_to ns sound k g is (work ns) ws work-is heads c.longest_to-head.ensures v m);
      tails = λ v m. subst (LongestAfter ns k (work ns) v) (sym (row v).1) (longest_after ns sound k g is (work ns) ws work-is froms c.longest_from-from.ensures v m);
      levels = λ v m. subst (LongestTo ns k (counts ns) v) (sym (row v).2) (longest_to ns sound k g is (counts ns) cs count-is levels c.longest_to-level.ensures v m);
      nowhere = λ v out. (
        (row v).0 ∙ to_nowhere ns sound k g is Work ws work-made heads c.longest_to-head.ensures v out,
        (row v).1 ∙ from_nowhere ns sound k g is Work ws work-made froms c.longest_from-from.ensures v out,
        (row v).2 ∙ to_nowhere ns sound k g is Count cs count-made levels c.longest_to-level.ensures v out,
      );
      span = largest_same ns k _ _ _ (λ v. (row v).0) (largest_of ns sound k g is (λ u. get_or heads u 0) c.greatest.result c.greatest.ensures);
      depth = largest_same ns k _ _ _ (λ v. (row v).2) (largest_of ns sound k g is (λ u. get_or levels u 0) c.greatest-2.result c.greatest-2.ensures);
    }
