use Rattle.std.proofs.Common.{rules, ◌≡◌, ◌+◌, ◌<◌, [], ◌∷◌, ◌++◌, length, Some, subst, ap, sym, ◌∙◌, length-append, arith}
use Rattle.few.specs.Few.{items}
use Rattle.std.proofs.lemmas.Bool.{true≢false}
use Rattle.engine.specs.Roster.{tag_of}
use Rattle.order.specs.Fullest.{candidate}
use Rattle.order.proofs.Tagging.{GathersAs, gathers_as_more, gathers_as_other, told_same}
use Rattle.order.proofs.fullest.gather.Goals as goal
use Rattle.order.proofs.fullest.gather.Goals.{then-eq, else-eq}

pub loop-engine-preserved : goal.loop-engine-preserved
loop-engine-preserved g c =
    let tags = g.R.Roster.tags c.args.roster.now in
    let tag = c.args.tag in
    let f = candidate c.args.loads.now in
    let i = c.loop-engine.engine in
    let was = items c.loop-engine.candidates in
    let inv = c.loop-engine.invariant in
    let within : i < length tags = omega (arith, c.engines-engine-end.ensures) in
    elim c.if-eq.branch [
      | then-eq w ↦
          let there : tag_of tags i ≡ Some tag = search rules in
          let put : items c.if-eq.candidates ≡ was ++ f i ∷ [] = search rules in
          record {
            count = omega (arith, ap length put, length-append was (f i ∷ []), inv.count);
            gathers = subst (GathersAs f tags tag (i + 1)) (sym put) (gathers_as_more f tags tag i was within there inv.gathers);
          }
      | else-eq w ↦
          let other : tag_of tags i ≡ Some tag → ⊥ = λ is. true≢false (sym (told_same c.tag.result tag (c.tag.ensures ∙ is)) ∙ (sym c.eq.ensures ∙ w.if-eq.false)) in
          let same : items c.if-eq.candidates ≡ was = ap items w.candidates-is in
          record {
            count = omega (arith, ap length same, inv.count);
            gathers = subst (GathersAs f tags tag (i + 1)) (sym same) (gathers_as_other f tags tag i was within other inv.gathers);
          }
    ]
