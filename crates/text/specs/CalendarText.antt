-- The calendar of a platform text.
--   CalendarOf es c         c has the tags and marks of the engines es
--   CalendarReads text c    the text is that of a platform, and c has its tags and marks
use Rattle.std.specs.Prelude.{◌≡◌, ℕ, List, map}
use Rattle.few.specs.Few.{items}
use Rattle.engine.specs.declared.calendar.Calendar.{Calendar}
use Rattle.engine.specs.Calendar.{calendar}
use Rattle.engine.specs.Tags.{tag_list}
use Rattle.text.specs.declared.platform_text.Engine.{Engine}
use Rattle.text.specs.declared.platform_text.Platform.{Platform}
use Rattle.text.specs.PlatformText.{Reads, said}

pub record CalendarOf (es : List Engine) (c : Calendar) : Type 0 where
  pub tags : tag_list c.tags ≡ map (λ (e : Engine). e.tag) es
  pub marks : calendar (items c.courses) ≡ map (λ (e : Engine). (said e).marks) es

pub record CalendarReads (text : List ℕ) (c : Calendar) : Type 0 where
  pub platform : Platform
  pub reads : Reads text platform
  pub described : CalendarOf (items platform.engines) c
