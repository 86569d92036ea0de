-- A platform whose engines follow marks.
--   idle                                     the marks of an engine that does not exist: it never serves
--   calendar cs                              the marks of the courses
--   marks_of cs e                            the marks of the engine e
--   supply_of, cycle_of, quota_of cs e       its supply in so many ticks, its cycle and its quota
--   AllFit ms                                the marks of each engine are fit
--   Matching tags ms                         there are as many marks as tags, and all are fit
use Rattle.std.specs.Prelude.{◌≡◌, ℕ, zero, suc, Bool, false, List, [], ◌∷◌, All, map, length, slice_index_or, refl}
use Rattle.std.proofs.Common.{arith}
use Rattle.cyclic.specs.Fewest.{fewest}
use Rattle.cyclic.specs.Ones.{ones}
use Rattle.engine.specs.declared.course.Course.{Course}
use Rattle.engine.specs.declared.marks.Marks.{Marks}
use Rattle.engine.specs.Course.{served, laws_of_marks, course_laws}
use Rattle.engine.specs.Marks.{Fit}
use Rattle.engine.specs.Supply.{Lawful}

abbrev pub idle : List Bool
idle = false ∷ []

abbrev pub calendar : List Course → List (List Bool)
calendar cs = map served cs

abbrev pub marks_of : List Course → ℕ → List Bool
marks_of cs e = slice_index_or (calendar cs) e idle

abbrev pub supply_of : List Course → ℕ → ℕ → ℕ
supply_of cs e = fewest (marks_of cs e)

abbrev pub cycle_of : List Course → ℕ → ℕ
cycle_of cs e = length (marks_of cs e)

abbrev pub quota_of : List Course → ℕ → ℕ
quota_of cs e = ones (marks_of cs e) 0 (cycle_of cs e)

abbrev pub AllFit : List Marks → Type 0
AllFit ms = All Fit ms

pub record Matching (tags : List ℕ) (ms : List Marks) : Type 0 where
  pub many : length ms ≡ length tags
  pub fit : AllFit ms

pub calendar_laws : (cs : List Course) (e : ℕ) → Lawful (supply_of cs e) (cycle_of cs e) (quota_of cs e)
calendar_laws [] e = laws_of_marks idle (omega arith) refl
calendar_laws (c ∷ cs) zero = course_laws c
calendar_laws (c ∷ cs) (suc e) = calendar_laws cs e
