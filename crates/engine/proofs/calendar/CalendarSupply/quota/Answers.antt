use Rattle.std.proofs.Common.{rules, Bool, List, length}
use Rattle.cyclic.specs.Ones.{ones}
use Rattle.few.specs.Few.{items}
use Rattle.engine.specs.CalendarLaws.{ones_idle}
use Rattle.engine.proofs.Calendars.{answered}
use Rattle.engine.proofs.calendar.CalendarSupply.quota.Goals as goal

pub returns : goal.returns
returns c = answered (λ (ms : List Bool). ones ms 0 (length ms)) (items c.args.self.now.courses) c.args.engine c.course.result c.map_or.result c.course.ensures (search (rules, ones_idle))
