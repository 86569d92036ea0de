use Rattle.std.proofs.Common.{◌≡◌, string_bytes, take}
use Rattle.std.specs.List.{flat_map}
use Rattle.rehearsal.specs.Report.{load_report}
use Rattle.rehearsal.proofs.report.report.Given as goal

abbrev pub invariant-loop-entry : goal.invariant-loop-entry
invariant-loop-entry l = string_bytes l.lines ≡ flat_map (λ e. load_report l.history e.call e.answer) (take l.entry-index l.history)
