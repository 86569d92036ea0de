use Rattle.std.proofs.Common.{rules, ◌≡◌, [], ◌∷◌, ◌++◌, map, length, sym, ap, subst, arith}
use Rattle.std.proofs.lemmas.List.{length-append}
use Rattle.few.specs.Few.{items}
use Rattle.text.specs.PlatformText.{engines_slots, said}
use Rattle.text.specs.Take.{Takes}
use Rattle.text.proofs.Passing.{passed_on}
use Rattle.text.proofs.Engines.{engines_more, engines_stop}
use Rattle.text.proofs.lines.Lines.engines.Goals as goal

pub returns-in_err-engine : goal.returns-in_err-engine
returns-in_err-engine c =
    let inv = c.loop.invariant in
    let stop = c.in_err-engine.ensures in
    passed_on _ _ _ _ c.from_residual.ensures.1 (engines_stop c.loop.counter c.args.count (items c.loop.engines) stop.0 _ _ _ _ _ c.loop-test.true inv.0 inv.1 stop.1)

pub loop-preserved : goal.loop-preserved
loop-preserved c =
    let inv = c.loop.invariant in
    let es = items c.loop.engines in
    let grown : items c.push.new.self ≡ es ++ c.in_ok-engine.engine ∷ [] = search rules in (
      omega (arith, ap length grown, length-append es (c.in_ok-engine.engine ∷ []), inv.0),
      subst (λ xs. Takes (engines_slots (map said xs)) c.args.self.now c.engine.new.self) (sym grown) (engines_more es _ _ _ _ _ _ _ inv.1 c.in_ok-engine.ensures),
    )
