-- The names of calls.
--   name_word n    the word of the name n
use Rattle.std.specs.Prelude.{ℕ, List, codes}
use Rattle.play.specs.declared.name.Name.{Name}
use Rattle.play.specs.declared.name.Name.TheVariants.{Arrive, Late, Load, Next, Sheet, Start, Stop, Tick, Unload}

abbrev pub name_word : Name → List ℕ
name_word Load = codes "load"
name_word Unload = codes "unload"
name_word Sheet = codes "sheet"
name_word Start = codes "start"
name_word Arrive = codes "arrive"
name_word Next = codes "next"
name_word Tick = codes "tick"
name_word Late = codes "late"
name_word Stop = codes "stop"
