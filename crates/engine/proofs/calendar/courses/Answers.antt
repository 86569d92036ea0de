use Rattle.std.proofs.Common.{rules, ◌≡◌, [], ◌∷◌, ◌++◌, ◌+◌, arith}
use Rattle.few.specs.Few.{items}
use Rattle.engine.proofs.Calendars.{all_made, first_made, made_many, one_other, unfit_other}
use Rattle.engine.proofs.calendar.courses.Goals as goal

pub loop-each-init : goal.loop-each-init
loop-each-init c =
    let put : items c.push.new.self ≡ items c.new-courses.result ++ c.in_ok-course.course ∷ [] = search rules in
    let made = first_made c.args.marks.now c.in_ok-first.others.now c.in_ok-first.first.now (items c.new-courses.result) (items c.push.new.self) c.in_ok-course.course c.in_ok-first.ensures.cases.0 c.in_ok-course.ensures c.new-courses.ensures put in
    record { fit = made.0; made = made.1 }

pub unwrap-requires-in-loop-each : goal.unwrap-requires-in-loop-each
unwrap-requires-in-loop-each c =
    let many = made_many c.args.marks.now (c.loop-each.each-index + 1) (items c.loop-each.courses) (omega (arith, c.in_ok-first.ensures.cases.1)) c.loop-each.invariant.made in
    c.push-in-loop-each.ensures.room.1 (omega (arith, many, c.in_ok-first.ensures.cases.1))

pub returns-in_err-new : goal.returns-in_err-new
returns-in_err-new c =
    rw c.from_residual-in_err-new.ensures (unfit_other c.args.marks.now c.in_ok-first.others.now c.in_ok-first.first.now c.loop-each.each-index c.each-item.result c.in_ok-first.ensures.cases.0 c.loop-each-test.true c.each-item.is c.in_err-new.ensures)

pub loop-each-preserved : goal.loop-each-preserved
loop-each-preserved c =
    let inv = c.loop-each.invariant in
    let put : items c.push-in-loop-each.new.self ≡ items c.loop-each.courses ++ c.in_ok-new.field-0 ∷ [] = search rules in
    let more = one_other c.args.marks.now c.in_ok-first.others.now c.in_ok-first.first.now c.loop-each.each-index c.each-item.result (items c.loop-each.courses) (items c.push-in-loop-each.new.self) c.in_ok-new.field-0 c.in_ok-first.ensures.cases.0 c.loop-each-test.true c.each-item.is c.in_ok-new.ensures put inv.fit inv.made in
    record { fit = more.0; made = more.1 }

pub returns : goal.returns
returns c = all_made c.args.marks.now (c.loop-each.each-index + 1) (items c.loop-each.courses) (omega (arith, c.in_ok-first.ensures.cases.1, c.loop-each-test.false)) c.loop-each.invariant.fit c.loop-each.invariant.made
