use Rattle.std.specs.Bool.{then_some}
use Rattle.std.proofs.Common.{◌≡◌, ◌∙◌, ℕ, Bool, true, false, Decides, List, MatchOption, refl, sym, ap}
use Rattle.std.proofs.lemmas.List.{take_all}
use Rattle.std.proofs.lemmas.Bool.{both_ways}
use Rattle.engine.specs.Marks.{Fit, marked}
use Rattle.engine.specs.declared.marks.Marks.{Marks}
use Rattle.text.specs.Slots.{MarksFit}
use Rattle.text.specs.Value.{Marked, mark_bytes}
use Rattle.few.specs.Few.{items}
use Rattle.text.proofs.Marking.{fit_from, marked_fit, marks_written, ones}
use Rattle.text.proofs.take.marks_of.Goals as goal

-- whether the marks are fit decides what comes
marks_or_none : (b : Bool) (m : Marks) (bs : List ℕ) → marked m ≡ ones bs → Marked (λ _. Unit {0}) bs → Decides b (Fit m) →
    MatchOption (then_some b m) (Marked MarksFit bs → ⊥) (λ m. (bs ≡ mark_bytes (marked m)) × Marked MarksFit bs)
marks_or_none true m bs all form d = (marks_written bs form ∙ ap mark_bytes (sym all), marked_fit m bs all form (d.0 refl))
marks_or_none false m bs all form d = λ r. both_ways false refl (d.1 (fit_from m bs all r))

pub returns : goal.returns
returns c =
    let bs = c.args.bytes.now in
    let all : items c.loop-byte.served ≡ ones bs = c.loop-byte.invariant ∙ ap ones (take_all c.loop-byte.byte-index bs c.loop-byte-test.false) in
    rw c.then_some.ensures (marks_or_none c.is_fit.result (record { served = c.loop-byte.served }) bs all c.requires c.is_fit.ensures)
