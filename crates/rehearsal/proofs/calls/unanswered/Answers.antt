use Rattle.std.proofs.Common.{rules, ◌≡◌, map, subst, IfOk}
use Rattle.std.proofs.lemmas.Iterator.{YieldsList-from_map_by, YieldsList-from_slice}
use Rattle.std.proofs.lemmas.Iterator.Consumers.{map_from_collect}
use Rattle.std.proofs.lemmas.List.{map-id}
use Rattle.rehearsal.proofs.calls.unanswered.Goals as goal

pub returns : goal.returns
returns c =
    let calls = c.args.calls.now in
    subst (λ cs. IfOk c.collect.result (λ es. map (λ e. e.call) es.items ≡ cs)) (map-id calls)
    (map_from_collect {v = λ e. e.call} c.collect.result c.collect.ensures.ran
    (YieldsList-from_map_by _ (λ e. e.call) (λ x. x) (YieldsList-from_slice calls (search rules)) c.map.ensures.closure (λ x r q k. search rules)))
