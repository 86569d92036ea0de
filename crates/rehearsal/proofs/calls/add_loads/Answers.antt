use Rattle.std.proofs.Common.{rules}
use Rattle.std.proofs.lemmas.Iterator.{YieldsList-from_map, YieldsList-from_slice}
use Rattle.std.proofs.lemmas.Iterator.Adapters.{items_from_extend}
use Rattle.rehearsal.specs.Calls.{load}
use Rattle.rehearsal.proofs.calls.add_loads.Goals as goal

pub returns : goal.returns
returns c =
    let h = items_from_extend c.extend.result c.extend.ensures.ran (YieldsList-from_map _ load (YieldsList-from_slice c.args.texts.now (search rules)) c.map.ensures.closure (λ x r q k. search rules)) in
    search rules
