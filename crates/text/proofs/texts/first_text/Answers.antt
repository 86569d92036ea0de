use Rattle.std.proofs.Common.{[], ◌∷◌, None}
use Rattle.std.proofs.lemmas.Bool.Decides.{Decides-eqb}
use Rattle.std.proofs.lemmas.List.{take_rest}
use Rattle.std.proofs.lemmas.Slice.Eq.{strip_prefix_is}
use Rattle.text.proofs.Parting.{parted_at_gap}
use Rattle.text.proofs.texts.first_text.Goals as goal

pub returns-in-Some-gap : goal.returns-in-Some-gap
returns-in-Some-gap c =
    let bs = c.args.input.now in
    rw take_rest (parted_at_gap bs c.in-Some-gap.at (strip_prefix_is Decides-eqb bs (10 ∷ []) None c.in_default.ensures.cases) c.in-Some-gap.ensures.0 c.in-Some-gap.ensures.1)
