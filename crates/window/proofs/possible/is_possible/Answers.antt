use Rattle.std.proofs.Common.{arith}
use Rattle.std.proofs.lemmas.Bool.{leb-true, le-leb}
use Rattle.window.proofs.Paths.{path_end}
use Rattle.window.proofs.possible.is_possible.Goals as goal

pub returns : goal.returns
returns c =
    let is = c.of.ensures in (
      λ y u v s p. omega (arith, leb-true _ _ y, (is.heads v (path_end p)).bound u s p, is.span.bound v (path_end p)),
      λ all. le-leb _ _ (let (v, m, e) = is.span.attained in let (u, p) = (is.heads v m).attained in omega (arith, all u v _ p)),
    )
