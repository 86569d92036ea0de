use Rattle.std.proofs.Common.{rules, length}
use Rattle.few.specs.Few.{items}
use Rattle.engine.proofs.Calendars.{answered}
use Rattle.engine.proofs.calendar.CalendarSupply.cycle.Goals as goal

pub returns : goal.returns
returns c = answered length (items c.args.self.now.courses) c.args.engine c.course.result c.map_or.result c.course.ensures (search rules)
