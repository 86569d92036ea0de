-- The tags that are kept.
--   tag_list t    the tags, in the order of the engines
use Rattle.std.specs.Prelude.{ℕ, List}
use Rattle.few.specs.Few.{items}
use Rattle.engine.specs.declared.tags.Tags.{Tags}

abbrev pub tag_list : Tags → List ℕ
tag_list t = items t.tags
