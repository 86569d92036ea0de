-- The served ticks of an engine, and its laws.
--   served c    the marks of the course, true for a served tick
use Rattle.std.specs.Prelude.{◌≡◌, ◌%◌, ◌≤◌, Bool, List, length}
use Rattle.cyclic.specs.Fewest.{fewest}
use Rattle.cyclic.specs.Ones.{ones}
use Rattle.cyclic.specs.FewestLaws.{fewest_none, fewest_grows, fewest_by_one, fewest_joins, fewest_repeats}
use Rattle.engine.specs.declared.course.Course.{Course}
use Rattle.engine.specs.Marks.{marked}
use Rattle.engine.specs.Supply.{Lawful}

abbrev pub served : Course → List Bool
served c = marked c.round.marks

pub laws_of_marks : (marks : List Bool) → 1 ≤ length marks → 14400 % length marks ≡ 0 → Lawful (fewest marks) (length marks) (ones marks 0 (length marks))
laws_of_marks marks some divides = record {
  some = some;
  divides = divides;
  none = fewest_none marks some;
  grows = fewest_grows marks some;
  by_one = fewest_by_one marks some;
  joins = fewest_joins marks some;
  repeats = fewest_repeats marks some;
}

pub course_laws : (c : Course) → Lawful (fewest (served c)) (length (served c)) (ones (served c) 0 (length (served c)))
course_laws c = laws_of_marks (served c) c.round.some c.round.divides
