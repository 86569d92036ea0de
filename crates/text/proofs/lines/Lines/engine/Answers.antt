use Rattle.std.proofs.Common.{[]}
use Rattle.text.specs.PlatformText.{Said}
use Rattle.text.proofs.Passing.{passed_on}
use Rattle.text.proofs.Following.{stops_here, stops_next}
use Rattle.text.proofs.lines.Lines.engine.Goals as goal

pub returns-in_err-tag : goal.returns-in_err-tag
returns-in_err-tag c =
    let none : Said = record { tag = 0; marks = [] } in
    passed_on _ _ _ _ c.from_residual.ensures.1 (none, stops_here c.in_err-tag.ensures)

pub returns-in_err-marks : goal.returns-in_err-marks
returns-in_err-marks c =
    let none : Said = record { tag = c.in_ok-tag.tag; marks = [] } in
    passed_on _ _ _ _ c.from_residual-in_err-marks.ensures.1 (none, stops_next c.in_ok-tag.ensures.0 (stops_here c.in_err-marks.ensures))
