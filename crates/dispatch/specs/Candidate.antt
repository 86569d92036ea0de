-- What is compared where an engine is to run one of several sub-tasks.
--   key c      a candidate, as a run over lists has it
--   named k    the sub-task of the key k
--   leads k o  whether k is before what was found so far
use Rattle.std.specs.Prelude.{Bool, true, Option, Some, None}
use Rattle.dispatch.specs.declared.candidate.Candidate.{Candidate}
use Rattle.dispatch.specs.declared.candidate.Next.{Next}
use Rattle.runs.specs.Next.{before, Key}

abbrev pub key : Candidate → Key
key c = record { due = c.due; job = c.job; node = c.node }

abbrev pub named : Key → Next
named k = record { job = k.job; node = k.node }

abbrev pub leads : Key → Option Key → Bool
leads k None = true
leads k (Some l) = before k l
