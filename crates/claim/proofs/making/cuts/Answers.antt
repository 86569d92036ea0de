use Rattle.std.proofs.Common.{rules, ◌≡◌, ◌+◌, length, List, [], ◌∷◌, ◌++◌, take, sym, subst, ap, arith}
use Rattle.std.specs.List.{AllZip}
use Rattle.std.proofs.lemmas.List.{length-take, take_more}
use Rattle.few.specs.Few.{items}
use Rattle.claim.specs.declared.claim.Cut.{Cut}
use Rattle.claim.specs.Making.{CutOf}
use Rattle.claim.proofs.Cutting.{zip_length, zip_push}
use Rattle.claim.proofs.Within.{slight_of}
use Rattle.plan.specs.declared.part.Task.{Task}
use Rattle.plan.specs.Part.{tasks_in}
use Rattle.claim.proofs.making.cuts.Goals as goal

pub unwrap-requires : goal.unwrap-requires
unwrap-requires c =
    let ts = tasks_in c.args.part.now in
    let i = c.loop-task.task-index in
    let few = (slight_of c.args.part.now).few in
    let same : c.deref-task-items.result.now ≡ ts = search rules in
    let many = zip_length (λ (t : Task) (k : Cut). CutOf ts c.args.rows.now c.args.ends.now t.window.offset k) (take i c.deref-task-items.result.now) (items c.loop-task.cuts) c.loop-task.invariant in
    c.push.ensures.room.1 (omega (arith, few, many, length-take i c.deref-task-items.result.now, ap length same, c.loop-task-test.true))

pub loop-task-preserved : goal.loop-task-preserved
loop-task-preserved c =
    let ts = tasks_in c.args.part.now in
    let xs = c.deref-task-items.result.now in
    let i = c.loop-task.task-index in
    let was = items c.loop-task.cuts in
    let R : Task → Cut → Type 0 = λ t k. CutOf ts c.args.rows.now c.args.ends.now t.window.offset k in
    let put : items c.push.new.self ≡ was ++ c.cut.result ∷ [] = search rules in
    let more = take_more xs i _ c.loop-task-test.true in
    subst (λ (ks : List Cut). AllZip R (take (i + 1) xs) ks) (sym put)
    (subst (λ (front : List Task). AllZip R front (was ++ c.cut.result ∷ [])) (sym more)
    (zip_push R (take i xs) was _ c.cut.result c.loop-task.invariant c.cut.ensures))
