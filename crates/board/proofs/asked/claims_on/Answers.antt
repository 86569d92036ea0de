use Rattle.std.proofs.Common.{rules, ◌≡◌, ◌≤◌, ◌∷◌, ◌++◌, [], map, length, take, get_or, ap, ◌∙◌, arith, false, true}
use lib.ListN.{length-map, length-append}
use Rattle.std.proofs.lemmas.List.{length-take}
use Rattle.board.specs.Asked.{claims_on}
use Rattle.board.proofs.Asking.{all_few, borrowed_put, claims_few, claims_of, is_on, seat_off, seat_on}
use Rattle.few.specs.Few.{items}
use Rattle.claim.specs.declared.claim.Claim.{Claim}
use Rattle.board.proofs.asked.claims_on.Goals as goal
use Rattle.board.proofs.asked.claims_on.Goals.{then-seat-engine, else-seat-engine}

pub unwrap-requires-then-seat-engine : goal.unwrap-requires-then-seat-engine
unwrap-requires-then-seat-engine c =
    let rs = c.args.residents.now in
    let i = c.loop-resident.resident-index in
    let ss = c.deref-seat-items.result.now in
    let k = c.loop-seat.seat-index in
    let e = c.args.engine in
    let cs = items c.loop-seat.claims in
    let front = claims_on (take i rs) e in
    let here = claims_of e (take k ss) in
    let seats : length ss ≤ 8 = search rules in
    c.push-then-seat-engine.ensures.room.1 (omega (
      arith,
      length-map cs (λ c. c.now),
      ap length c.loop-seat.invariant,
      length-append front here,
      all_few (take i rs) e,
      claims_few e (take k ss),
      length-take i rs,
      length-take k ss,
      c.loop-resident-test.true,
      c.loop-seat-test.true,
      c.requires,
    ))

pub loop-seat-preserved : goal.loop-seat-preserved
loop-seat-preserved c =
    let rs = c.args.residents.now in
    let ss = c.deref-seat-items.result.now in
    let k = c.loop-seat.seat-index in
    let e = c.args.engine in
    let was = items c.loop-seat.claims in
    let front = claims_on (take c.loop-resident.resident-index rs) e in
    elim c.if-seat-engine.branch [
      | then-seat-engine w ↦
          let on : is_on e (get_or ss k c.seat-item.result) ≡ true = search rules in
          let put = borrowed_put was (items w.push-then-seat-engine.new.self) _ w.push-then-seat-engine.result w.unwrap-then-seat-engine.result w.push-then-seat-engine.ensures.put w.unwrap-then-seat-engine.ensures in
          ap (λ l. map (λ r. r.now) (items l)) w.claims-is ∙ put ∙ ap (λ (x : Claim). map (λ r. r.now) was ++ x ∷ []) (ap (λ s. s.claim) c.seat-item.is)
          ∙ seat_on e front (map (λ r. r.now) was) c.args.claim.now ss k c.seat-item.result c.loop-seat-test.true c.loop-seat.invariant on
      | else-seat-engine w ↦
          let off : is_on e (get_or ss k c.seat-item.result) ≡ false = search rules in
          ap (λ l. map (λ r. r.now) (items l)) w.claims-is
          ∙ seat_off e front (map (λ r. r.now) was) c.args.claim.now ss k c.seat-item.result c.loop-seat-test.true c.loop-seat.invariant off
    ]
