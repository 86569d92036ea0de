use Rattle.std.proofs.Common.{rules, ◌≡◌, slice_index, arith}
use Rattle.few.specs.Few.{items}
use Rattle.claim.proofs.Reaching.{ended_at}
use Rattle.claim.proofs.claim.Claim.ended.Goals as goal

pub returns-else-from-y : goal.returns-else-from-y
returns-else-from-y c =
    let es = items c.args.self.now.ends in
    let here : c.from.result ≡ slice_index es c.loop-ended.ended = search rules in
    ended_at es c.args.y c.loop-ended.ended c.args.self.now.sorted c.loop-ended.invariant.few c.loop-ended.invariant.passed (λ _. omega (arith, here, c.if-from-y.false))

pub returns-after-loop-ended : goal.returns-after-loop-ended
returns-after-loop-ended c =
    let es = items c.args.self.now.ends in
    ended_at es c.args.y c.loop-ended.ended c.args.self.now.sorted c.loop-ended.invariant.few c.loop-ended.invariant.passed (λ more. absurd (search (rules, more)))
