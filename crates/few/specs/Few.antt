-- A list that is kept in place.
--   items f    its items
use Rattle.std.specs.Prelude.{ℕ, List, take}
use Rattle.few.specs.declared.few.Few.{Few}

abbrev pub items : {T : Type 0} {N : ℕ} → Few T N → List T
items f = take f.len f.places
