use Rattle.std.proofs.Common.{◌≡◌, ℕ, ◌+◌, ◌<◌, Bool, List, [], ◌∷◌, ◌++◌, length, get_or, sym, subst, inl, inr, arith, rules}
use Rattle.std.proofs.lemmas.Bool.{cases_eq}
use Rattle.std.proofs.lemmas.List.{get_or_append_left, get_or_push, length_push}
use Rattle.few.specs.Few.{items}
use Rattle.task.specs.Concrete.{Reached}
use Rattle.task.specs.Flaws.{graph}
use Rattle.task.specs.Tables.{Tells}
use Rattle.plan.proofs.Branches.{branches_few}
use Rattle.plan.proofs.plans.reached_by_branch.Goals as goal

pub unwrap-requires : goal.unwrap-requires
unwrap-requires c = c.push.ensures.room.1 (omega (arith, branches_few c.args.job.now, c.branches-branch-end.ensures, c.loop-branch-test.true, c.loop-branch.invariant.0))

pub loop-branch-preserved : goal.loop-branch-preserved
loop-branch-preserved c =
    let at = c.loop-branch.branch in
    let was = items c.loop-branch.rows in
    let row = c.reached.result in
    let inv = c.loop-branch.invariant in
    let Told : ℕ → List Bool → Type 0 = λ b r. Tells (Reached (graph c.args.job.now) c.args.choice b) r in
    let Kept : List (List Bool) → Type 0 = λ rows. (length rows ≡ at + 1) × ((b : ℕ) → b < at + 1 → Told b (get_or rows b [])) in
    let put : items c.push.new.self ≡ was ++ row ∷ [] = search rules in
    subst Kept (sym put) (
      omega (arith, inv.0, length_push was row),
      λ b low. elim (cases_eq b at) [
        | inl e ↦ subst (λ (k : ℕ). Told k (get_or (was ++ row ∷ []) k [])) (sym e) (subst (Told at) (sym (get_or_push was row [] at inv.0)) c.reached.ensures)
        | inr ne ↦ subst (Told b) (sym (get_or_append_left was (row ∷ []) [] b (omega arith))) (inv.1 b (omega arith))
      ],
    )
