use Rattle.std.proofs.Common.{rules, ◌≡◌, ◌≢◌}
use Rattle.std.proofs.lemmas.Iterator.{YieldsList-from_slice, first_from_find}
use Rattle.std.proofs.lemmas.Iterator.Consumers.{YieldsList-at, YieldsList-from_copied}
use Rattle.play.specs.declared.name.Name.{Name}
use Rattle.play.specs.Name.{name_word}
use Rattle.play.proofs.Naming.{named, names}
use Rattle.play.proofs.name.Name.of.Goals as goal

pub returns : goal.returns
returns c =
    let Yes = λ (n : Name). c.args.word.now ≡ name_word n in
    let No = λ (n : Name). c.args.word.now ≢ name_word n in
    let found = first_from_find _ _ c.find.result Yes No c.find.ensures.ran (YieldsList-from_copied (YieldsList-at c.copied.ensures.source (YieldsList-from_slice names (search rules)))) (λ x q k. search rules) (λ x q k. (search rules, search rules)) in
    named Yes No c.find.result found
