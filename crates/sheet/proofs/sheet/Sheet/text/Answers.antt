use Rattle.std.proofs.Common.{◌++◌, length, ap, ◌∙◌, arith}
use Rattle.plan.proofs.Gathering.{given_some, given_none}
use Rattle.plan.specs.Part.{task_at}
use Rattle.resident.specs.Resident.{number_of}
use Rattle.sheet.specs.declared.lines.NodeLine.{NodeLine}
use Rattle.sheet.specs.Lines.{node_line, title}
use Rattle.sheet.specs.Sheet.{has_line, line_at, line_of}
use Rattle.sheet.proofs.Written.{write_on, write_skip}
use Rattle.sheet.proofs.sheet.Sheet.text.Goals as goal
use Rattle.sheet.proofs.sheet.Sheet.text.Goals.{in-Some, in_default}

pub loop-v-preserved : goal.loop-v-preserved
loop-v-preserved c =
    let r = c.args.self.now.resident.now in
    let front = title (number_of r) r.plan.choice in
    let v = c.loop-v.v in
    let inv = c.loop-v.invariant in
    elim c.match-line.branch [
      | in-Some w ↦
          let found = given_some (has_line r v) (line_at r v) w.in-Some.line c.line.result c.line.ensures w.in-Some.is in
          let line = w.as_str-in-Some.ensures.value ∙ w.text-in-Some.ensures ∙ ap (λ (l : NodeLine). node_line l.node l.engine l.window.offset l.window.deadline) found.1 in
          record {
            short = omega (arith, ap (λ t. length t.bytes) w.text-is, w.push_str-in-Some.ensures.len);
            written = ap (λ t. t.bytes) w.text-is ∙ w.push_str-in-Some.ensures.bytes ∙ ap (λ bs. c.loop-v.text.bytes ++ bs) line ∙ ap (λ bs. bs ++ line_of r (task_at r.plan v)) inv.written ∙ write_on r front v found.0;
          }
      | in_default w ↦
          record {
            short = omega (arith, ap (λ t. length t.bytes) w.text-is);
            written = ap (λ t. t.bytes) w.text-is ∙ inv.written ∙ write_skip r front v (given_none (has_line r v) (line_at r v) c.line.result c.line.ensures w.in_default.is);
          }
    ]
