-- The answer to a job text.
--   granted_text r                        answer=0, and then the sheet of the job
--   refused_text f                        answer=, the number of the question, a comma, and the place
--   Answers rules rs text after bs        bs is the answer to the text where the board has the jobs rs, and afterwards it has these
use Rattle.std.specs.Prelude.{ℕ, List, [], ◌∷◌, ◌++◌, codes}
use Rattle.board.specs.declared.refusal.Refusal.{Refusal}
use Rattle.board.specs.Loading.{IsLoaded, LoadRefused}
use Rattle.board.specs.Placing.{Rules}
use Rattle.board.specs.Refusal.{refusal_text}
use Rattle.resident.specs.declared.resident.Resident.{Resident}
use Rattle.sheet.specs.Sheet.{sheet_of}

abbrev pub granted_text : Resident → List ℕ
granted_text r = codes "answer=0\n" ++ sheet_of r

abbrev pub refused_text : Refusal → List ℕ
refused_text f = codes "answer=" ++ (refusal_text f ++ codes "\n")

pub data Answers (rules : Rules) (rs : List Resident) (text : List ℕ) : List Resident → List ℕ → Type 0 where
  granted : (job : Resident) → IsLoaded rules rs text job → Answers rules rs text (rs ++ job ∷ []) (granted_text job)
  refused : (f : Refusal) → LoadRefused rules rs text f → Answers rules rs text rs (refused_text f)
