use Rattle.std.proofs.Common.{arith, ◌∙◌}
use Rattle.dispatch.specs.declared.tick.Tick.{Tick}
use Rattle.dispatch.proofs.Turning.{steps_are, still_in_time}
use Rattle.dispatch.proofs.table.Table.tick.Goals as goal

pub invariant_of-self : goal.invariant_of-self
invariant_of-self c =
    let b = c.args.self.now in
    let k : Tick = record { clock = b.clock; ran = c.ran.result; done = c.args.done; short = omega (arith, b.short, c.if-self-eq-LAST.false) } in
    record {
      short = omega (arith, b.short, c.if-self-eq-LAST.false);
      counted = omega (arith, b.counted, c.turn_slots-late.ensures.few);
      few = b.few;
      in_time = still_in_time k b.len b.slots _ c.turn_slots-late.ensures.after;
    }

pub returns-clause-steps : goal.returns-clause-steps
returns-clause-steps c =
    let b = c.args.self.now in
    let k : Tick = record { clock = b.clock; ran = c.ran.result; done = c.args.done; short = omega (arith, b.short, c.if-self-eq-LAST.false) } in
    let late = c.from.ensures ∙ c.turn_slots-late.ensures.late in
    steps_are k b.len b.slots _ c.turn_slots-late.ensures.after c.args.served b.late_total c.from.result c.ran.ensures late
