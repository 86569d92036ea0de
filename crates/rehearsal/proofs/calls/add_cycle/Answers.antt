use Rattle.std.proofs.Common.{rules, ◌≡◌, ◌++◌}
use Rattle.engine.specs.Calendar.{supply_of}
use Rattle.few.specs.Few.{items}
use Rattle.rehearsal.proofs.Numbers.{no_pieces, one_piece_more}
use Rattle.rehearsal.specs.Calls.{calls_at}
use Rattle.rehearsal.proofs.calls.add_cycle.Goals as goal

pub loop-clock-init : goal.loop-clock-init
loop-clock-init c = no_pieces (calls_at (supply_of (items c.args.platform.now.courses)) c.args.jobs.now) c.args.calls.now.items

pub loop-clock-preserved : goal.loop-clock-preserved
loop-clock-preserved c =
    let at = calls_at (supply_of (items c.args.platform.now.courses)) c.args.jobs.now in
    let put : c.add_at.new.calls.items ≡ c.loop-clock.calls.items ++ at c.loop-clock.clock = search rules in
    one_piece_more at c.loop-clock.clock _ _ _ c.loop-clock.invariant put
