use Rattle.std.proofs.Common.{rules, ◌≡◌, ◌++◌, string_bytes}
use Rattle.rehearsal.proofs.Numbers.{no_pieces, one_piece_more}
use Rattle.rehearsal.specs.Report.{ran_line}
use Rattle.rehearsal.proofs.report.job_report.Goals as goal

pub loop-node-init : goal.loop-node-init
loop-node-init c = no_pieces (ran_line c.args.history.now c.args.number) (string_bytes c.in_ok-lines.lines)

pub loop-node-preserved : goal.loop-node-preserved
loop-node-preserved c =
    let line = ran_line c.args.history.now c.args.number in
    let put : string_bytes c.push_str.new.self ≡ string_bytes c.loop-node.lines ++ line c.loop-node.node = search rules in
    one_piece_more line c.loop-node.node _ _ _ c.loop-node.invariant put
