use Rattle.std.proofs.Common.{◌≡◌, ℕ, ◌+◌, ◌-◌, ◌<◌, ◌≤◌, Bool, false, length, get_or, set, sym, ap, ◌∙◌, subst, inl, inr, arith, rules}
use Rattle.std.proofs.lemmas.List.{length-set}
use Rattle.std.proofs.lemmas.Bool.{cases_eq, cases_lt}
use Rattle.task.specs.Tables.{leads}
use Rattle.window.specs.Greatest.{greatest}
use Rattle.window.specs.Recurrences.{Settled}
use Rattle.window.proofs.Maxima.{greatest_tested}
use Rattle.window.proofs.Settling.{settled_keep, settled_here, small_here, small_turn, settled_past}
use Rattle.window.proofs.lengths.longest_from.Goals as goal

found : (c : goal.After-greatest) → c.greatest.result ≡ greatest (λ w. leads c.args.edges.now (c.loop-v.v - 1) w) (λ u. get_or c.loop-v.from u 0) 24
found c =
    c.greatest.ensures
    ∙ greatest_tested (λ w. get_or c.column.result w false) (λ w. leads c.args.edges.now (c.loop-v.v - 1) w) (λ u. get_or c.loop-v.from u 0) 24 c.column.ensures

pub overflow_add-from : goal.overflow_add-from
overflow_add-from c =
    let v = c.loop-v.v - 1 in
    let small : get_or c.args.weights.now v 0 + c.greatest.result ≤ 345600 =
    omega (
      arith,
      found c,
      small_here (λ w u. leads c.args.edges.now u w) (λ w. 24 - w) c.args.weights.now c.loop-v.from v 0 (λ u r. omega (arith, c.requires.0 v u r)) (omega (arith, c.loop-v.auto.v, c.loop-v-test.true)) (c.requires.1 v) c.loop-v.invariant.2,
    ) in
    search rules

pub loop-v-preserved : goal.loop-v-preserved
loop-v-preserved c =
    let R : ℕ → ℕ → Bool = λ w u. leads c.args.edges.now u w in
    let ws = c.args.weights.now in
    let was = c.loop-v.from in
    let v = c.loop-v.v - 1 in
    let y = get_or ws v 0 + c.greatest.result in
    let up = c.requires.0 in
    let below : v < 24 = omega (arith, c.loop-v.auto.v, c.loop-v-test.true) in
    let room : v < length was = omega (arith, c.loop-v.invariant.0) in
    let is = ap (λ g. get_or ws v 0 + g) (found c) in (
      length-set was v y ∙ c.loop-v.invariant.0,
      λ w from in'. elim (cases_eq w v) [
        | inl e ↦ subst (Settled R ws (set was v y)) (sym e) (settled_here R ws was v y room (λ r. omega (arith, (up v v r).0)) is)
        | inr ne ↦ settled_keep R ws was v y w ne (λ r. omega (arith, (up w v r).0)) (c.loop-v.invariant.1 w (omega arith) in')
      ],
      small_turn R (λ w. 24 - w) ws was v y (λ u r. omega (arith, up v u r)) (omega arith) (c.requires.1 v) c.loop-v.invariant.2 room is,
    )

pub returns : goal.returns
returns c v = elim (cases_lt v 24) [
  | inl below ↦ c.loop-v.invariant.1 v (omega arith) below
  | inr past ↦ settled_past (λ w u. leads c.args.edges.now u w) c.args.weights.now c.loop-v.from v (omega (arith, c.told-weights)) (omega (arith, c.loop-v.invariant.0)) (λ u r. omega (arith, c.requires.0 v u r))
]
