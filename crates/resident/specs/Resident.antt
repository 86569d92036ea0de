-- A job that sits on the engines of a board.
--   number_of r          its number
--   engine_among ss g    the engine of the first of the seats ss for the tag g, if there is one
--   engine_of r g        the engine that the part of the tag g sits on
use Rattle.std.specs.Prelude.{ℕ, cond, List, [], ◌∷◌, Option, Some, None, ◌==◌}
use Rattle.few.specs.Few.{items}
use Rattle.resident.specs.declared.resident.Resident.{Resident}
use Rattle.resident.specs.declared.resident.Seat.{Seat}

abbrev pub number_of : Resident → ℕ
number_of r = r.plan.job.number

abbrev pub engine_among : List Seat → ℕ → Option ℕ
engine_among [] g = None
engine_among (s ∷ ss) g = cond (s.tag == g) (Some s.engine) (engine_among ss g)

abbrev pub engine_of : Resident → ℕ → Option ℕ
engine_of r g = engine_among (items r.seats) g
