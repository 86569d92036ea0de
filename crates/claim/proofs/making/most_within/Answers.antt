use Rattle.std.proofs.Common.{◌≡◌, ℕ, max, List, Bool, rules, arith}
use Rattle.std.specs.List.{fold}
use Rattle.std.proofs.lemmas.Iterator.{YieldsList-from_slice}
use Rattle.std.proofs.lemmas.Iterator.Consumers.{fold_from_yields_List}
use Rattle.claim.specs.Making.{most_within}
use Rattle.claim.proofs.Folding.{fold_greatest}
use Rattle.claim.proofs.Within.{most_light, slight_of}
use Rattle.plan.specs.Part.{tasks_in}
use Rattle.plan.specs.Pattern.{branch_of}
use Rattle.theory.specs.Pattern.{inner}
use Rattle.claim.proofs.making.most_within.Goals as goal

pub returns : goal.returns
returns c =
    let ts = tasks_in c.args.part.now in
    let u = c.args.from in
    let y = c.args.by in
    let rows = c.args.rows.now in
    let f : List Bool → ℕ = λ row. inner (branch_of ts row) u y in
    let is : c.fold.result ≡ fold (λ m row. max (f row) m) 0 rows =
    fold_from_yields_List _ (λ m row. max (f row) m) 0 c.fold.result c.fold.ensures.ran (YieldsList-from_slice rows (search rules)) (λ a x b q k. search rules) in
    let most = fold_greatest f 0 rows in
    let same : c.fold.result ≡ most_within ts rows u y = omega arith in
    record { most = same; light = omega (arith, most_light rows u y ts (slight_of c.args.part.now)) }
