-- A platform that serves every tick.
--   WholeReads text p    the text is that of a platform, and p has its tags
use Rattle.std.specs.Prelude.{◌≡◌, ℕ, List, map}
use Rattle.engine.specs.declared.whole.Whole.{Whole}
use Rattle.engine.specs.Tags.{tag_list}
use Rattle.few.specs.Few.{items}
use Rattle.text.specs.declared.platform_text.Engine.{Engine}
use Rattle.text.specs.declared.platform_text.Platform.{Platform}
use Rattle.text.specs.PlatformText.{Reads}

pub record WholeReads (text : List ℕ) (p : Whole) : Type 0 where
  pub platform : Platform
  pub reads : Reads text platform
  pub tags : tag_list p.tags ≡ map (λ (e : Engine). e.tag) (items platform.engines)
