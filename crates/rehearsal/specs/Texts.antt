-- The texts of an input, and the jobs that they write.
--   Parted left texts    what is left of an input, if something is, is these texts, parted by empty lines
--   AreJobs texts js     the texts write the jobs js, in their order, and the other texts are refused
use Rattle.std.specs.Prelude.{ℕ, List, [], ◌∷◌, Some, None, Option}
use Rattle.task.specs.declared.job.Job.{Job}
use Rattle.text.specs.declared.fault.Fault.{Fault}
use Rattle.text.specs.JobText.{Reads, Refused}
use Rattle.text.specs.Texts.{First}

pub data Parted : Option (List ℕ) → List (List ℕ) → Type 0 where
  none : Parted None []
  one : {input text : List ℕ} {more : Option (List ℕ)} {texts : List (List ℕ)}
      → First input text more → Parted more texts → Parted (Some input) (text ∷ texts)

pub data AreJobs : List (List ℕ) → List Job → Type 0 where
  none : AreJobs [] []
  job : {text : List ℕ} {j : Job} {texts : List (List ℕ)} {js : List Job}
      → Reads text j → AreJobs texts js → AreJobs (text ∷ texts) (j ∷ js)
  other : {text : List ℕ} (f : Fault) {texts : List (List ℕ)} {js : List Job}
      → Refused text f → AreJobs texts js → AreJobs (text ∷ texts) js
