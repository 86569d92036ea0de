-- A fault that the question mark passes on.
use Rattle.std.proofs.Common.{◌≡◌, Result, Ok, Err, IsErrAnd, MatchResult, sym, subst}

pub passed_on : {T E : Type 0} (P : T → Type 0) (Q : E → Type 0) (r : Result T E) (f : E) → IsErrAnd r (λ e. e ≡ f) → Q f → MatchResult r P Q
passed_on P Q (Ok x) f is q = absurd is
passed_on P Q (Err e) f is q = subst Q (sym is) q
