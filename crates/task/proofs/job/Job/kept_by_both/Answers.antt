use Rattle.std.proofs.Common.{◌≡◌, ℕ, false, ◌&&◌, Bool, List, [], get_or, sym, ap, ◌∙◌, rules}
use Rattle.std.proofs.lemmas.Bool.{and_parts}
use Rattle.few.proofs.Filled.{filled}
use Rattle.task.specs.declared.node.Numbering.TheVariants.{Choice, Branch}
use Rattle.task.specs.Flaws.{graph}
use Rattle.task.specs.Graph.{edge}
use Rattle.task.specs.Picks.{by_both, by_choice, keeps}
use Rattle.task.specs.Tables.{leads}
use Rattle.task.proofs.Leading.{kept_same, some_rise}
use Rattle.task.proofs.Places.{no_edge, rows_of}
use Rattle.task.proofs.job.Job.kept_by_both.Goals as goal

pub returns : goal.returns
returns c =
    let ns = graph c.args.self.now in
    let nodes = c.graph-nodes.result.now in
    let k = c.args.choice in
    let b = c.args.branch in
    let first = c.picks-choice.result in
    let second = c.picks-branch.result in
    let told = c.picks-choice.ensures in
    let tells = c.picks-branch.ensures in
    let made = c.from_fn.ensures.items in
    let F : ℕ → ℕ → Bool = λ u v. (edge nodes u v && keeps first.numbering first.nodes.now first.number u v) && keeps second.numbering second.nodes.now second.number u v in
    let rows : (u v : ℕ) → leads c.from_fn.result u v ≡ F u v =
    rows_of c.from_fn.result F made.long
    (λ v below. filled made (λ w (row : List Bool). (u : ℕ) → get_or row u false ≡ F u w) (λ w row f short q. search rules) v [] below)
    (λ u v past.
    ap (λ b. (b && keeps first.numbering first.nodes.now first.number u v) && keeps second.numbering second.nodes.now second.number u v)
    (no_edge nodes c.graph-nodes.ensures.sound.few u v past)) in
    let same : (u v : ℕ) → leads c.from_fn.result u v ≡ by_both ns k b u v =
    λ u v. rows u v
    ∙ kept_same Branch _ ns _ b _ tells.numbering tells.nodes tells.number _ _
    (kept_same Choice _ ns _ k _ told.numbering told.nodes told.number _ _ (ap (λ xs. edge xs u v) c.graph-nodes.ensures.nodes) u v) u v in
    record {
      same = same;
      rises = some_rise ns c.args.self.now.upward (leads c.from_fn.result)
          (λ u v y. (and_parts (edge ns u v) (keeps Choice ns k u v) (and_parts (by_choice ns k u v) (keeps Branch ns b u v) (sym (same u v) ∙ y)).0).0);
    }
