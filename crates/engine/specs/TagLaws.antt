-- Tags that are kept are a roster.
use Rattle.engine.specs.declared.tags.Tags.{Tags}
use Rattle.engine.specs.Roster.{Rostered}
use Rattle.engine.specs.Tags.{tag_list}

pub rostered_tags : (t : Tags) → Rostered (tag_list t)
rostered_tags t = record { some = t.some; few = t.few; small = t.small }
