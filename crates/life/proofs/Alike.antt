-- Boards that are alike: they answer alike, and are alike after it.
use Rattle.std.proofs.Common.{◌≡◌, ℕ, eqb, List, [], ◌∷◌, ◌++◌, map, Option, Some, None, refl, sym, ap, ◌∙◌, inl, inr}
use Rattle.std.proofs.lemmas.Bool.{cases_Bool}
use Rattle.std.proofs.lemmas.List.Concat.{flat_map-cons}
use Rattle.board.specs.Asked.{asked_by, asked_on}
use Rattle.board.specs.Residents.{others, resident_of}
use Rattle.life.proofs.Moving.{AskSame}
use Rattle.resident.specs.declared.resident.Resident.{Resident}
use Rattle.resident.specs.Resident.{number_of}
use Rattle.runs.specs.Job.{Job as Run}
use Rattle.seated.specs.Jobs.{job_of, jobs_of}
use Rattle.theory.specs.Pattern.{Pattern}

-- two residents ask the same of the engines, and are one job of a run
pub record Twins (r q : Resident) : Type 0 where
  pub asked : (e : ℕ) → asked_by r e ≡ asked_by q e
  pub job : job_of r ≡ job_of q

abbrev pub AllTwins : List Resident → List Resident → Type 0
AllTwins [] [] = Unit {0}
AllTwins [] (q ∷ qs) = ⊥
AllTwins (r ∷ rs) [] = ⊥
AllTwins (r ∷ rs) (q ∷ qs) = Twins r q × AllTwins rs qs

twin_number : (r q : Resident) → Twins r q → number_of r ≡ number_of q
twin_number r q twins = ap (λ (j : Run). j.number) twins.job

pub twins_asked : (rs qs : List Resident) → AllTwins rs qs → (e : ℕ) → asked_on rs e ≡ asked_on qs e
twins_asked [] [] all e = refl
twins_asked [] (q ∷ qs) all e = absurd all
twins_asked (r ∷ rs) [] all e = absurd all
twins_asked (r ∷ rs) (q ∷ qs) all e =
    flat_map-cons (λ x. asked_by x e) r rs
    ∙ ap (λ (l : List Pattern). l ++ asked_on rs e) (all.0.asked e)
    ∙ ap (λ l. asked_by q e ++ l) (twins_asked rs qs all.1 e)
    ∙ sym (flat_map-cons (λ x. asked_by x e) q qs)

pub twins_jobs : (rs qs : List Resident) → AllTwins rs qs → jobs_of rs ≡ jobs_of qs
twins_jobs [] [] all = refl
twins_jobs [] (q ∷ qs) all = absurd all
twins_jobs (r ∷ rs) [] all = absurd all
twins_jobs (r ∷ rs) (q ∷ qs) all = ap (λ (j : Run). j ∷ jobs_of rs) all.0.job ∙ ap (λ l. job_of q ∷ l) (twins_jobs rs qs all.1)

twins_numbers : (rs qs : List Resident) → AllTwins rs qs → map number_of rs ≡ map number_of qs
twins_numbers [] [] all = refl
twins_numbers [] (q ∷ qs) all = absurd all
twins_numbers (r ∷ rs) [] all = absurd all
twins_numbers (r ∷ rs) (q ∷ qs) all = ap (λ (n : ℕ). n ∷ map number_of rs) (twin_number r q all.0) ∙ ap (λ l. number_of q ∷ l) (twins_numbers rs qs all.1)

pub twins_same : (rs qs : List Resident) → AllTwins rs qs → AskSame rs qs
twins_same rs qs all = record { asked = twins_asked rs qs all; numbers = twins_numbers rs qs all }

pub twins_more : (rs qs : List Resident) (r q : Resident) → AllTwins rs qs → Twins r q → AllTwins (rs ++ r ∷ []) (qs ++ q ∷ [])
twins_more [] [] r q all twins = (twins, tt)
twins_more [] (x ∷ qs) r q all twins = absurd all
twins_more (x ∷ rs) [] r q all twins = absurd all
twins_more (x ∷ rs) (y ∷ qs) r q all twins = (all.0, twins_more rs qs r q all.1 twins)

pub twins_left : (n : ℕ) (rs qs : List Resident) → AllTwins rs qs → AllTwins (others rs n) (others qs n)
twins_left n [] [] all = tt
twins_left n [] (q ∷ qs) all = absurd all
twins_left n (r ∷ rs) [] all = absurd all
twins_left n (r ∷ rs) (q ∷ qs) all =
    let rest = twins_left n rs qs all.1 in
    let same : eqb (number_of r) n ≡ eqb (number_of q) n = ap (λ m. eqb m n) (twin_number r q all.0) in
    elim (cases_Bool (eqb (number_of q) n)) [
      | inl yes' ↦ rw (same ∙ yes') (rw yes' rest)
      | inr no' ↦ rw (same ∙ no') (rw no' (all.0, rest))
    ]

-- a job is there in both or in none, and is one job of a run
pub data Both : Option Resident → Option Resident → Type 0 where
  neither : Both None None
  each : {r q : Resident} → Twins r q → Both (Some r) (Some q)

pub twins_found : (n : ℕ) (rs qs : List Resident) → AllTwins rs qs → Both (resident_of rs n) (resident_of qs n)
twins_found n [] [] all = neither
twins_found n [] (q ∷ qs) all = absurd all
twins_found n (r ∷ rs) [] all = absurd all
twins_found n (r ∷ rs) (q ∷ qs) all =
    let rest = twins_found n rs qs all.1 in
    let same : eqb (number_of r) n ≡ eqb (number_of q) n = ap (λ m. eqb m n) (twin_number r q all.0) in
    elim (cases_Bool (eqb (number_of q) n)) [
      | inl yes' ↦ rw (same ∙ yes') (rw yes' (each all.0))
      | inr no' ↦ rw (same ∙ no') (rw no' rest)
    ]
