use Rattle.std.proofs.Common.{rules, ◌≡◌, Bool, eqb, None, Some, Bor, sym, ap, ◌∙◌}
use Rattle.std.specs.Option.{option_map}
use Rattle.std.proofs.lemmas.Iterator.{YieldsList-from_slice}
use Rattle.std.proofs.lemmas.Iterator.Search.{find_from_yields_List}
use Rattle.dispatch.specs.declared.slot.Slot.{Slot}
use Rattle.dispatch.specs.Table.{slots_in}
use Rattle.dispatch.proofs.LastArrival.{last_found, last_of}
use Rattle.dispatch.proofs.table.Table.last_arrival.Goals as goal

pub returns-in_err-find : goal.returns-in_err-find
returns-in_err-find c =
    let ss = slots_in c.args.self.now in
    let test : Slot → Bool = λ s. eqb s.job c.args.job in
    let found = find_from_yields_List test _ _ c.find.result c.find.ensures.ran (YieldsList-from_slice ss (search rules)) (λ x b q k. (search rules, search rules)) in
    let none : c.find.result ≡ None = search rules in
    c.from_residual.ensures ∙ sym (last_found c.args.job ss ∙ ap last_of (sym found ∙ ap (option_map (λ (x : Bor Slot). x.now)) none))

pub returns : goal.returns
returns c =
    let ss = slots_in c.args.self.now in
    let test : Slot → Bool = λ s. eqb s.job c.args.job in
    let found = find_from_yields_List test _ _ c.find.result c.find.ensures.ran (YieldsList-from_slice ss (search rules)) (λ x b q k. (search rules, search rules)) in
    let some : c.find.result ≡ Some c.in_ok-find.field-0 = search rules in
    sym (last_found c.args.job ss ∙ ap last_of (sym found ∙ ap (option_map (λ (x : Bor Slot). x.now)) some))
