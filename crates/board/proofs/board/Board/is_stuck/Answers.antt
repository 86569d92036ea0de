use Rattle.std.proofs.Common.{◌≡◌, ℕ, Bool, cond, [], refl, sym, ap, ◌∙◌, arith}
use Rattle.board.proofs.Stating.{part_states}
use Rattle.board.proofs.Steps.{next_below, some_is}
use Rattle.plan.specs.Part.{part_of}
use Rattle.plan.specs.Pattern.{part_pattern}
use Rattle.resident.specs.Seats.{some_task}
use Rattle.board.proofs.board.Board.is_stuck.Goals as goal

pub loop-tag-preserved-in_default : goal.loop-tag-preserved-in_default
loop-tag-preserved-in_default g c =
    next_below _ c.loop-tag.tag c.loop-tag.invariant (λ has _.
    let none : part_of c.args.plan.now c.loop-tag.tag ≡ [] = c.in_default.ensures in
    let z : ◌≡◌ {A = ℕ} 0 1 = ap (λ (b : Bool). cond b 1 0) (sym (ap some_task none) ∙ has) in
    omega arith)

pub returns-then-is_nowhere : goal.returns-then-is_nowhere
returns-then-is_nowhere g c =
    let plan = c.args.plan.now in
    let tag = c.loop-tag.tag in
    let states = part_states plan tag c.in-Some.claim c.in-Some.ensures.1 in (
      λ _. record {
        tag = tag;
        low = c.loop-tag-test.true;
        has = some_is (part_of plan tag) c.in-Some.ensures.0;
        short = (c.is_nowhere.ensures (part_pattern plan tag) states).0 c.if-is_nowhere.true;
      },
      λ _. refl,
    )

pub loop-tag-preserved : goal.loop-tag-preserved
loop-tag-preserved g c =
    let plan = c.args.plan.now in
    let tag = c.loop-tag.tag in
    let states = part_states plan tag c.in-Some.claim c.in-Some.ensures.1 in
    next_below _ tag c.loop-tag.invariant (λ _ short.
    let nowhere = (c.is_nowhere.ensures (part_pattern plan tag) states).1 short in
    let z : ◌≡◌ {A = ℕ} 0 1 = ap (λ (b : Bool). cond b 1 0) (sym c.if-is_nowhere.false ∙ nowhere) in
    omega arith)

pub returns : goal.returns
returns g c = (
  λ y. absurd (let z : ◌≡◌ {A = ℕ} 0 1 = ap (λ (b : Bool). cond b 1 0) y in omega arith),
  λ stuck. absurd (c.loop-tag.invariant stuck.tag (omega (arith, stuck.low, c.loop-tag-test.false)) stuck.has stuck.short),
)
