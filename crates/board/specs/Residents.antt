-- The jobs of a board.
--   jobs rs             the jobs, the first loaded first
--   resident_of rs n    the first of the residents rs with the number n, if there is one
--   others rs n         the residents rs whose number is not n, in their order
use Rattle.std.specs.Prelude.{ℕ, List, filter, not, Option, ◌==◌}
use Rattle.std.specs.List.{find}
use Rattle.board.specs.declared.residents.Residents.{Residents}
use Rattle.board.specs.Listed.{listed}
use Rattle.resident.specs.declared.resident.Resident.{Resident}
use Rattle.resident.specs.Resident.{number_of}

abbrev pub jobs : Residents → List Resident
jobs rs = listed rs.kept

abbrev pub resident_of : List Resident → ℕ → Option Resident
resident_of rs n = find (λ (r : Resident). number_of r == n) rs

abbrev pub others : List Resident → ℕ → List Resident
others rs n = filter (λ (r : Resident). not (number_of r == n)) rs
