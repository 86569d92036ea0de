-- The test for the bounds is true inside them and false outside.
use Rattle.std.specs.Prelude.{◌≡◌, true, false}
use Rattle.std.proofs.Common.{inl, inr}
use Rattle.std.proofs.lemmas.Bool.{and_parts, and_from, leb-true, le-leb, cases_Bool}
use Rattle.slack.specs.declared.rule.Position.{Position}
use Rattle.slack.specs.Rule.{Bounds, bounded}

pub bounds_if_tested : (p : Position) → bounded p ≡ true → Bounds p
bounds_if_tested p y =
    let a = and_parts _ _ y in
    let b = and_parts _ _ a.1 in
    let c = and_parts _ _ b.1 in
    let d = and_parts _ _ c.1 in
    let e = and_parts _ _ d.1 in
    let f = and_parts _ _ e.1 in
    record {
      worked = leb-true _ _ a.0;
      spanned = leb-true _ _ b.0;
      timely = leb-true _ _ c.0;
      cyclic = leb-true _ _ d.0;
      levelled = leb-true _ _ e.0;
      reached = leb-true _ _ f.0;
      shallow = leb-true _ _ f.1;
    }

pub tested_if_bounds : (p : Position) → Bounds p → bounded p ≡ true
tested_if_bounds p b =
    and_from _ _ (le-leb _ _ b.worked)
    (and_from _ _ (le-leb _ _ b.spanned)
    (and_from _ _ (le-leb _ _ b.timely)
    (and_from _ _ (le-leb _ _ b.cyclic)
    (and_from _ _ (le-leb _ _ b.levelled)
    (and_from _ _ (le-leb _ _ b.reached) (le-leb _ _ b.shallow))))))

pub untested_if_outside : (p : Position) → (Bounds p → ⊥) → bounded p ≡ false
untested_if_outside p out =
    elim (cases_Bool (bounded p)) [ inl y ↦ elim (out (bounds_if_tested p y)) [ ] | inr n ↦ n ]
