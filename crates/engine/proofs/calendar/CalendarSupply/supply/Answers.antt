use Rattle.std.proofs.Common.{rules, min, Bool, List}
use Rattle.cyclic.specs.Fewest.{fewest}
use Rattle.few.specs.Few.{items}
use Rattle.engine.specs.CalendarLaws.{fewest_idle}
use Rattle.engine.proofs.Calendars.{answered}
use Rattle.engine.proofs.calendar.CalendarSupply.supply.Goals as goal

pub returns : goal.returns
returns c = answered (λ (ms : List Bool). fewest ms (min c.args.ticks 28800)) (items c.args.self.now.courses) c.args.engine c.course.result c.map_or.result c.course.ensures (search (rules, fewest_idle))
