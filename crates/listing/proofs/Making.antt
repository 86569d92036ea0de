-- What holds of a value that was made.
use Rattle.std.proofs.Common.{IfOk, Ok, Err, Result}

pub made_map : {X Y : Type 0} (r : Result X Y) (P Q : X → Type 0) → ((x : X) → P x → Q x) → IfOk r P → IfOk r Q
made_map (Ok x) P Q f p = f x p
made_map (Err y) P Q f p = tt
