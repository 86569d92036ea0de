-- Taking a job off a board.
--   UnloadRefused rs number f    the question that unloading the job with the number fails is that of f
use Rattle.std.specs.Prelude.{◌≡◌, ℕ, List, None}
use Rattle.board.specs.declared.refusal.Refusal.{Refusal}
use Rattle.board.specs.declared.refusal.Refusal.TheVariants.{NotResident}
use Rattle.board.specs.Residents.{resident_of}
use Rattle.resident.specs.declared.resident.Resident.{Resident}

pub record UnloadRefused (rs : List Resident) (number : ℕ) (f : Refusal) : Type 0 where
  pub question : f ≡ NotResident
  pub missing : resident_of rs number ≡ None
