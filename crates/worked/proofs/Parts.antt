-- The choices and the parts of the cases' nodes, whatever their ticks, the deadline and the slack rule.
use Rattle.std.proofs.Common.{◌≡◌, ℕ, true, eqb, List, [], ◌∷◌, filter, refl, sym, inl, inr}
use Rattle.std.proofs.lemmas.Bool.{cases_Bool, eqb-true, false≢true}
use Rattle.computed.specs.Tables.{each, falling, rising, some_below}
use Rattle.resident.specs.Seats.{all_tags}
use Rattle.slack.specs.declared.rule.Position.{Position}
use Rattle.task.specs.declared.node.Numbering.TheVariants.{Choice}
use Rattle.task.specs.Picks.{numbers}
use Rattle.theory.specs.Pattern.{Pattern, Window}
use Rattle.window.specs.Greatest.{greatest}
use Rattle.worked.specs.Cases.{after, alone, both, either, way}
use Rattle.worked.proofs.Known.{is_part}

abbrev pub window : ℕ → ℕ → ℕ → Window
window o l w = record { offset = o; deadline = l; ticks = w }

abbrev pub pattern_of : ℕ → ℕ → List (List Window) → Pattern
pattern_of t d branches = record { period = t; deadline = d; branches = branches }

pub choices_alone : (n : ℕ) → numbers Choice (alone n) ≡ 1
unfolding after alone
choices_alone n = refl

pub choices_both : (n : ℕ) → numbers Choice (both n) ≡ 1
unfolding after both
choices_both n = refl

pub choices_either : numbers Choice either ≡ 1
unfolding after either
choices_either = refl

pub choices_way : numbers Choice way ≡ 2
unfolding after way
choices_way = refl

module _ (local : Position → ℕ) (d : ℕ) where
  pub only_alone : (n g : ℕ) → is_part local d (alone n) 0 g ≡ true → g ≡ 0
  unfolding after alone each rising falling some_below greatest
  only_alone n g has = elim (cases_Bool (eqb 0 g)) [
    | inl yes' ↦ sym (eqb-true 0 g yes')
    | inr no' ↦ absurd (false≢true (rw no' at has))
  ]

  pub has_alone : (n : ℕ) → is_part local d (alone n) 0 0 ≡ true
  unfolding after alone each rising falling some_below greatest
  has_alone n = refl

  pub parts_alone : (n : ℕ) → filter (is_part local d (alone n) 0) all_tags ≡ 0 ∷ []
  unfolding after alone each rising falling some_below greatest
  parts_alone n = refl

  pub only_both : (n g : ℕ) → is_part local d (both n) 0 g ≡ true → g ≡ 0
  unfolding after both each rising falling some_below greatest
  only_both n g has = elim (cases_Bool (eqb 0 g)) [
    | inl yes' ↦ sym (eqb-true 0 g yes')
    | inr no' ↦ absurd (false≢true (rw no' at has))
  ]

  pub has_both : (n : ℕ) → is_part local d (both n) 0 0 ≡ true
  unfolding after both each rising falling some_below greatest
  has_both n = refl

  pub only_either : (g : ℕ) → is_part local d either 0 g ≡ true → g ≡ 0
  unfolding after either each rising falling some_below greatest
  only_either g has = elim (cases_Bool (eqb 0 g)) [
    | inl yes' ↦ sym (eqb-true 0 g yes')
    | inr no' ↦ absurd (false≢true (rw no' at has))
  ]

  -- the first choice has a part of tag 1, the second has not
  pub first_way : is_part local d way 0 1 ≡ true
  unfolding after way each rising falling some_below greatest
  first_way = refl

  pub only_way : (g : ℕ) → is_part local d way 1 g ≡ true → g ≡ 0
  unfolding after way each rising falling some_below greatest
  only_way g has = elim (cases_Bool (eqb 0 g)) [
    | inl yes' ↦ sym (eqb-true 0 g yes')
    | inr no' ↦ absurd (false≢true (rw no' at has))
  ]

  pub parts_way : filter (is_part local d way 1) all_tags ≡ 0 ∷ []
  unfolding after way each rising falling some_below greatest
  parts_way = refl
