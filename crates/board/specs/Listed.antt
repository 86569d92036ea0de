-- A list of jobs that may be absent.
--   listed o    the jobs on it
use Rattle.std.specs.Prelude.{List, [], Option, Some, None}
use Rattle.few.specs.declared.few.Few.{Few}
use Rattle.few.specs.Few.{items}
use Rattle.resident.specs.declared.resident.Resident.{Resident}

abbrev pub listed : Option (Few Resident 16) → List Resident
listed None = []
listed (Some rs) = items rs
