use Rattle.std.proofs.Common.{rules, Bool, eqb}
use Rattle.std.proofs.lemmas.Iterator.{YieldsList-from_slice}
use Rattle.std.proofs.lemmas.Iterator.Search.{find_from_yields_List}
use Rattle.board.specs.Residents.{jobs}
use Rattle.resident.specs.declared.resident.Resident.{Resident}
use Rattle.resident.specs.Resident.{number_of}
use Rattle.board.proofs.board.Board.resident.Goals as goal

pub returns : goal.returns
returns g c =
    let rs = jobs c.args.self.now.residents in
    let test : Resident → Bool = λ r. eqb (number_of r) c.args.number in
    find_from_yields_List test _ _ c.find.result c.find.ensures.ran (YieldsList-from_slice rs (search rules)) (λ x b q k. (search rules, search rules))
