use Rattle.std.proofs.Common.{◌≡◌, ◌∙◌, rules}
use borrow.Author.Tests.{tests}
use Rattle.std.specs.List.{fold, zip}
use Rattle.std.proofs.lemmas.Iterator.{YieldsList-from_slice, YieldsList-from_zip}
use Rattle.std.proofs.lemmas.Iterator.Consumers.{fold_from_yields_List}
use Rattle.window.proofs.Maxima.{greatest_of, more}
use Rattle.window.proofs.greatest.greatest.Goals as goal

pub returns : goal.returns
returns c =
    let ps = c.args.places.now in
    let vs = c.args.values.now in
    let is : c.fold.result ≡ fold more 0 (zip ps vs) =
    fold_from_yields_List _ more 0 c.fold.result c.fold.ensures.ran (YieldsList-from_zip (YieldsList-from_slice ps (search rules)) (YieldsList-from_slice vs (search rules))) (λ a x b q k. search (rules, tests)) in
    is ∙ greatest_of ps vs 24 c.told-places c.told-values
