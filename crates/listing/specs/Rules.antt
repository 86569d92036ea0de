-- What the seating program places by.
--   seat_rules p    the calendar platform p, slack in proportion to work, and the engines with most load first
use Rattle.board.specs.Placing.{Rules}
use Rattle.engine.specs.declared.calendar.Calendar.{Calendar}
use Rattle.engine.specs.Calendar.{supply_of}
use Rattle.engine.specs.Tags.{tag_list}
use Rattle.few.specs.Few.{items}
use Rattle.order.specs.Fullest.{fullest_listing}
use Rattle.slack.specs.Proportional.{proportional}

abbrev pub seat_rules : Calendar → Rules
seat_rules p = record {
  tags = tag_list p.tags;
  supply = supply_of (items p.courses);
  local = proportional;
  listing = fullest_listing (record {});
}
