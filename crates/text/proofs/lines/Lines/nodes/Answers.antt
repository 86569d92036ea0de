use Rattle.std.proofs.Common.{rules, ◌≡◌, [], ◌∷◌, ◌++◌, length, sym, ap, subst, arith}
use Rattle.std.proofs.lemmas.List.{length-append}
use Rattle.few.specs.Few.{items}
use Rattle.text.specs.JobText.{NodesFit, nodes_slots}
use Rattle.text.specs.Take.{Takes}
use Rattle.text.proofs.Passing.{passed_on}
use Rattle.text.proofs.Graphs.{nodes_more, nodes_stop, fits_more}
use Rattle.text.proofs.lines.Lines.nodes.Goals as goal

pub returns-in_err-node : goal.returns-in_err-node
returns-in_err-node c =
    let inv = c.loop-v.invariant in
    let stop = c.in_err-node.ensures in
    passed_on _ _ _ _ c.from_residual.ensures.1 (nodes_stop c.loop-v.v c.args.count (items c.loop-v.nodes) stop.0 _ _ _ _ _ c.loop-v-test.true inv.0 inv.1 stop.1)

pub loop-v-preserved : goal.loop-v-preserved
loop-v-preserved c =
    let inv = c.loop-v.invariant in
    let is = c.in_ok-node.ensures in
    let v = c.loop-v.v in
    let ns = items c.loop-v.nodes in
    let grown : items c.push.new.self ≡ ns ++ c.in_ok-node.node ∷ [] = search rules in (
      omega (arith, ap length grown, length-append ns (c.in_ok-node.node ∷ []), inv.0),
      subst (λ ms. Takes (nodes_slots 0 ms) c.args.self.now c.node.new.self) (sym grown) (nodes_more v ns _ _ _ _ _ _ _ inv.0 inv.1 is.0),
      subst NodesFit (sym grown) (fits_more v ns _ inv.0 inv.2 is.1),
    )
