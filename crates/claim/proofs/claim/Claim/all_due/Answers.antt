use Rattle.std.proofs.Common.{◌≡◌, max, sym, subst, rules, arith}
use Rattle.std.specs.List.{fold}
use Rattle.std.proofs.lemmas.Iterator.{YieldsList-from_slice}
use Rattle.std.proofs.lemmas.Iterator.Consumers.{fold_from_yields_List}
use Rattle.claim.specs.Asking.{Steady, all_due}
use Rattle.claim.proofs.Folding.{fold_greatest}
use Rattle.claim.proofs.Steadying.{steady}
use Rattle.few.specs.Few.{items}
use Rattle.claim.proofs.claim.Claim.all_due.Goals as goal

is_due : (c : goal.After-fold) → c.fold.result ≡ all_due c.args.self.now
is_due c =
    let es = items c.args.self.now.ends in
    let d = c.args.self.now.deadline in
    let is : c.fold.result ≡ fold (λ m e. max e m) d es = fold_from_yields_List _ (λ m e. max e m) d c.fold.result c.fold.ensures.ran (YieldsList-from_slice es (search rules)) (λ a x b q k. search rules) in
    omega (arith, fold_greatest (λ e. e) d es)

pub returns : goal.returns
returns c = record { due = is_due c; steady = subst (Steady c.args.self.now) (sym (is_due c)) (steady c.args.self.now) }
