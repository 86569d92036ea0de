-- Texts and jobs, one more at the end.
use Rattle.std.proofs.Common.{◌≡◌, ℕ, ◌+◌, ◌<◌, List, [], ◌∷◌, ◌++◌, map, take, length, get_or, ap, ◌∙◌, sym, refl, subst, Bor}
use Rattle.std.proofs.lemmas.List.{map-append, take_more}
use Rattle.rehearsal.specs.Texts.{AreJobs, none, job, other}
use Rattle.task.specs.declared.job.Job.{Job}
use Rattle.text.specs.declared.fault.Fault.{Fault}
use Rattle.text.specs.JobText.{Reads, Refused}

abbrev pub bytes_of : List (Bor (List ℕ)) → List (List ℕ)
bytes_of texts = map (λ x. x.now) texts

pub put_last : (found : List (Bor (List ℕ))) (text : Bor (List ℕ)) (ts : List (List ℕ)) → bytes_of found ++ text.now ∷ ts ≡ bytes_of (found ++ text ∷ []) ++ ts
put_last [] text ts = refl
put_last (f ∷ found) text ts = ap (λ r. f.now ∷ r) (put_last found text ts)

job_last : {texts : List (List ℕ)} {js : List Job} → AreJobs texts js → (text : List ℕ) (j : Job) → Reads text j → AreJobs (texts ++ text ∷ []) (js ++ j ∷ [])
job_last none text j reads = job reads none
job_last (job r rest) text j reads = job r (job_last rest text j reads)
job_last (other f r rest) text j reads = other f r (job_last rest text j reads)

other_last : {texts : List (List ℕ)} {js : List Job} → AreJobs texts js → (text : List ℕ) (f : Fault) → Refused text f → AreJobs (texts ++ text ∷ []) js
other_last none text f refused = other f refused none
other_last (job r rest) text f refused = job r (other_last rest text f refused)
other_last (other g r rest) text f refused = other g r (other_last rest text f refused)

next_text : (texts : List (Bor (List ℕ))) (i : ℕ) (text : Bor (List ℕ)) → i < length texts → bytes_of (take (i + 1) texts) ≡ bytes_of (take i texts) ++ (get_or texts i text).now ∷ []
next_text texts i text below =
    ap bytes_of (take_more texts i text below) ∙ map-append (λ x. x.now) (take i texts) (get_or texts i text ∷ [])

pub next_job : (texts : List (Bor (List ℕ))) (i : ℕ) (text : Bor (List ℕ)) → i < length texts → (js : List Job) (j : Job) → AreJobs (bytes_of (take i texts)) js → Reads (get_or texts i text).now j → AreJobs (bytes_of (take (i + 1) texts)) (js ++ j ∷ [])
next_job texts i text below js j before reads =
    subst (λ ts. AreJobs ts (js ++ j ∷ [])) (sym (next_text texts i text below)) (job_last before (get_or texts i text).now j reads)

pub next_other : (texts : List (Bor (List ℕ))) (i : ℕ) (text : Bor (List ℕ)) → i < length texts → (js : List Job) (f : Fault) → AreJobs (bytes_of (take i texts)) js → Refused (get_or texts i text).now f → AreJobs (bytes_of (take (i + 1) texts)) js
next_other texts i text below js f before refused =
    subst (λ ts. AreJobs ts js) (sym (next_text texts i text below)) (other_last before (get_or texts i text).now f refused)
