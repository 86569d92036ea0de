use Rattle.std.proofs.Common.{◌+◌, sym, ◌∙◌, arith}
use Rattle.claim.proofs.Reaching.{due_is}
use Rattle.claim.proofs.claim.Claim.plateau_at.Goals as goal

pub returns-clause-level : goal.returns-clause-level
returns-clause-level c = λ n spans.
    let me = c.args.self.now in
    let k = c.args.cut.now in
    let begins = c.last_due.ensures (k.«from» + c.args.ticks) c.requires.is in
    let same = begins.same (k.«from» + n) (omega arith) (omega arith) in
    sym (due_is me k (k.«from» + n) c.args.reach (c.requires.is ∙ sym same)) ∙ sym c.due.ensures
