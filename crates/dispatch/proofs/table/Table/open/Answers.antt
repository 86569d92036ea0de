use Rattle.few.specs.Few.{items}
use Rattle.dispatch.proofs.Arriving.{opens, opens_in_time}
use Rattle.dispatch.proofs.table.Table.open.Goals as goal

pub invariant_of-self : goal.invariant_of-self
invariant_of-self c =
    let b = c.args.self.now in
    let fresh = c.opened-fresh in
    record {
      short = b.short;
      counted = b.counted;
      few = b.few;
      in_time = opens_in_time b.clock c.args.job (items c.args.tasks.now) fresh.result fresh.ensures.job fresh.ensures.last fresh.ensures.tasks b.len b.slots c.replace.new.slots c.replace.ensures b.in_time;
    }

pub returns : goal.returns
returns c =
    let b = c.args.self.now in
    let fresh = c.opened-fresh in
    let slots = opens b.clock c.args.job (items c.args.tasks.now) fresh.result fresh.ensures.job fresh.ensures.last fresh.ensures.tasks b.len b.slots c.replace.new.slots c.replace.ensures in
    λ i. record { clock = b.clock; slots = slots i; lates = b.late_total }
