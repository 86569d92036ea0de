use Rattle.std.proofs.Common.{◌≡◌, ◌++◌, string_bytes}
use Rattle.std.specs.List.{flat_map}
use Rattle.rehearsal.specs.Below.{below}
use Rattle.rehearsal.specs.Report.{ran_line}
use Rattle.rehearsal.proofs.report.job_report.Given as goal

abbrev pub invariant-loop-node : goal.invariant-loop-node
invariant-loop-node l = string_bytes l.lines ≡ string_bytes l.initial.lines ++ flat_map (ran_line l.history l.number) (below l.node)
