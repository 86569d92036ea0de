use Rattle.std.proofs.Common.{◌+◌, ◌<◌, ◌≤◌, length, get_or, set, sym, ap, ◌∙◌, subst, inl, inr, arith, rules}
use Rattle.std.proofs.lemmas.List.{length-set}
use Rattle.std.proofs.lemmas.Bool.{cases_eq, cases_lt}
use Rattle.task.specs.Tables.{leads}
use Rattle.window.specs.Recurrences.{Settled}
use Rattle.window.proofs.Settling.{settled_keep, settled_here, small_here, small_turn, settled_past}
use Rattle.window.proofs.lengths.longest_to.Goals as goal

pub overflow_add-to : goal.overflow_add-to
overflow_add-to c =
    let v = c.loop-v.v in
    let small : get_or c.args.weights.now v 0 + c.greatest.result ≤ 345600 =
    omega (
      arith,
      c.greatest.ensures,
      c.loop-v-test.true,
      small_here (leads c.args.edges.now) (λ w. w + 1) c.args.weights.now c.loop-v.to v 0 (λ u r. omega (arith, (c.requires.0 u v r).0)) (omega arith) (c.requires.1 v) c.loop-v.invariant.2,
    ) in
    search rules

pub loop-v-preserved : goal.loop-v-preserved
loop-v-preserved c =
    let R = leads c.args.edges.now in
    let ws = c.args.weights.now in
    let was = c.loop-v.to in
    let v = c.loop-v.v in
    let y = get_or ws v 0 + c.greatest.result in
    let up = c.requires.0 in
    let room : v < length was = omega (arith, c.loop-v.invariant.0, c.loop-v-test.true) in
    let is = ap (λ g. get_or ws v 0 + g) c.greatest.ensures in (
      length-set was v y ∙ c.loop-v.invariant.0,
      λ w below. elim (cases_eq w v) [
        | inl e ↦ subst (Settled R ws (set was v y)) (sym e) (settled_here R ws was v y room (λ r. omega (arith, (up v v r).0)) is)
        | inr ne ↦ settled_keep R ws was v y w ne (λ r. omega (arith, (up v w r).0)) (c.loop-v.invariant.1 w (omega arith))
      ],
      small_turn R (λ w. w + 1) ws was v y (λ u r. omega (arith, (up u v r).0)) (omega arith) (c.requires.1 v) c.loop-v.invariant.2 room is,
    )

pub returns : goal.returns
returns c v = elim (cases_lt v 24) [
  | inl below ↦ c.loop-v.invariant.1 v (omega arith)
  | inr past ↦ settled_past (leads c.args.edges.now) c.args.weights.now c.loop-v.to v (omega (arith, c.told-weights)) (omega (arith, c.loop-v.invariant.0)) (λ u r. omega (arith, c.requires.0 u v r))
]
