use Rattle.std.proofs.Common.{rules, ◌≡◌, ◌<◌, ◌++◌, [], ◌∷◌, length, take, sym, ap, ◌∙◌, length-append, arith}
use Rattle.std.proofs.lemmas.List.{append_assoc, append-nil, length-take, take_all}
use Rattle.dispatch.specs.Choosing.{candidate, ready_of}
use Rattle.few.specs.Few.{items}
use Rattle.dispatch.proofs.Gathering.{ready_few, ready_no, ready_yes, take_next}
use Rattle.dispatch.proofs.slot.Slot.gather.Goals as goal
use Rattle.dispatch.proofs.slot.Slot.gather.Goals.{then-is_ready_on, else-is_ready_on}

pub loop-task-init : goal.loop-task-init
loop-task-init c = sym (append-nil (items c.args.found.now))

pub unwrap-requires : goal.unwrap-requires
unwrap-requires c =
    let s = c.args.self.now in
    let os = take s.len s.tasks in
    let i = c.loop-task.task-index in
    let few = ready_few c.args.engine s.job (take i os) in
    let room : length (items c.loop-task.found) < 384 = omega (arith, ap length c.loop-task.invariant, length-append (items c.args.found.now) (ready_of c.args.engine s.job (take i os)), length-take i os, length-take s.len s.tasks, c.requires, c.loop-task-test.true) in
    search rules

pub loop-task-preserved : goal.loop-task-preserved
loop-task-preserved c =
    let s = c.args.self.now in
    let os = take s.len s.tasks in
    let i = c.loop-task.task-index in
    let e = c.args.engine in
    let o = c.task-item.result in
    let was = items c.args.found.now in
    let more = ap (ready_of e s.job) (take_next os i o c.loop-task-test.true c.task-item.is) in
    elim c.if-is_ready_on.branch [
      | then-is_ready_on w ↦
          let yes = sym c.is_ready_on.ensures ∙ w.if-is_ready_on.true in
          let put : items c.if-is_ready_on.found ≡ items c.loop-task.found ++ candidate s.job o ∷ [] = search rules in
          put ∙ (ap (λ l. l ++ candidate s.job o ∷ []) c.loop-task.invariant ∙ (append_assoc was (ready_of e s.job (take i os)) (candidate s.job o ∷ []) ∙ ap (λ l. was ++ l) (sym (more ∙ ready_yes e s.job (take i os) o yes))))
      | else-is_ready_on w ↦
          let no = sym c.is_ready_on.ensures ∙ w.if-is_ready_on.false in
          ap items w.found-is ∙ (c.loop-task.invariant ∙ ap (λ l. was ++ l) (sym (more ∙ ready_no e s.job (take i os) o no)))
    ]

pub returns : goal.returns
returns c =
    let s = c.args.self.now in
    let os = take s.len s.tasks in
    c.loop-task.invariant ∙ ap (λ l. items c.args.found.now ++ ready_of c.args.engine s.job l) (take_all c.loop-task.task-index os c.loop-task-test.false)
