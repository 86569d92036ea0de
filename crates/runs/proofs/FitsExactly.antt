-- All engines fit exactly when no run is ever late.
use Rattle.std.proofs.Common.{◌≡◌, List, length, subst, inl, inr, take_all, arith}
use Rattle.std.proofs.lemmas.Bool.{cases_lt}
use Rattle.runs.specs.Job.{asked}
use Rattle.runs.specs.Events.{Event, play, start}
use Rattle.runs.specs.Runs.{Run}
use Rattle.runs.specs.Job.{AllFit}
use Rattle.runs.specs.Theorems.{FitsExactly}
use Rattle.runs.proofs.NeverLate.{never_late}
use Rattle.runs.proofs.LateWhenOverloaded.{late_when_overloaded}

pub fits_exactly : FitsExactly
fits_exactly engines supply jobs laws sound distinct = (never, fits)
  where
    never : AllFit engines supply jobs → (es : List Event) → Run engines supply jobs es → (play (start jobs) es).lates ≡ 0
    never fit es r =
        let whole = take_all (length es) es (omega arith) in
        subst (λ fs. (play (start jobs) fs).lates ≡ 0) whole (never_late engines supply jobs es sound fit r.supplied (length es)).none_counted

    fits : ((es : List Event) → Run engines supply jobs es → (play (start jobs) es).lates ≡ 0) → AllFit engines supply jobs
    fits none e known n = elim (cases_lt (supply e n) (asked e jobs n)) [
      | inr enough ↦ enough
      | inl over ↦
          let (es, r, _, late) = late_when_overloaded engines supply jobs laws sound distinct e n known over in
          absurd (omega (arith, none es r))
    ]
