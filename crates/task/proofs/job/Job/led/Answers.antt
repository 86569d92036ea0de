use Rattle.std.proofs.Common.{◌≡◌, ℕ, ◌<◌, Bool, true, false, ◌&&◌, ◌⊎◌, List, [], length, get_or, Decides, MatchBool, refl, sym, ◌∙◌, subst, inl, inr, arith}
use Rattle.std.proofs.lemmas.List.{length-set, get_or-set_other}
use Rattle.std.proofs.lemmas.Bool.{cases_lt, both_ways}
use Rattle.task.specs.declared.node.Node.{Node}
use Rattle.task.specs.Concrete.{Led, first, Rises}
use Rattle.task.specs.Graph.{edge}
use Rattle.task.specs.Tables.{leads, Tells, Free, SomeOf, Meets, Apart}
use Rattle.task.proofs.Leading.{decides_turn, led_from, led_by, led_inside}
use Rattle.task.proofs.job.Job.led.Goals as goal

-- what the test of one node says is whether it is led to
tested : (ns : List Node) (keep : ℕ → ℕ → Bool) → Rises ns keep → (was : List Bool) (v : ℕ) → v < length ns → ((w : ℕ) → w < v → Decides (get_or was w false) (Led ns keep w))
    → (x : Bool)
    → MatchBool x (((u : ℕ) → edge ns u v ≡ false) ⊎ ((u : ℕ) × ((keep u v && get_or was u false) ≡ true))) (((u : ℕ) × (edge ns u v ≡ true)) × ((u : ℕ) → (keep u v && get_or was u false) ≡ false))
    → Decides x (Led ns keep v)
tested ns keep rises was v inside before true (inl none) = (λ _. first inside none, λ _. refl)
tested ns keep rises was v inside before true (inr (u, met)) = (λ _. led_from ns keep rises was v inside before u met, λ _. refl)
tested ns keep rises was v inside before false ((u, some), apart) =
    (λ y. absurd (both_ways false refl y), λ l. absurd (led_by ns keep rises was v inside before u some apart l))

pub loop-v-preserved : goal.loop-v-preserved
loop-v-preserved c =
    let ns = c.graph-nodes.result.now in
    let keep = leads c.args.edges.now in
    let v = c.loop-v.v in
    let was = c.loop-v.members in
    let x = c.is_led.result in
    let rises : Rises ns keep = subst (λ ms. Rises ms keep) (sym c.graph-nodes.ensures.nodes) c.requires in
    let room : v < length was = omega (arith, c.loop-v.invariant.0, c.loop-v-test.true, c.graph-nodes.ensures.sound.few) in (
      length-set was v x ∙ c.loop-v.invariant.0,
      decides_turn (Led ns keep) was v x room c.loop-v.invariant.1 (tested ns keep rises was v c.loop-v-test.true c.loop-v.invariant.1 x
          (subst (λ row. MatchBool x (Free row ⊎ Meets (get_or c.args.edges.now v []) was) (SomeOf row × Apart (get_or c.args.edges.now v []) was)) c.after.ensures c.is_led.ensures)),
      λ w past. get_or-set_other was v w x false (omega arith) ∙ c.loop-v.invariant.2 w (omega arith),
    )

pub returns : goal.returns
returns c =
    let ns = c.graph-nodes.result.now in
    let keep = leads c.args.edges.now in
    let rises : Rises ns keep = subst (λ ms. Rises ms keep) (sym c.graph-nodes.ensures.nodes) c.requires in
    let told : Tells (Led ns keep) c.loop-v.members = λ v. elim (cases_lt v c.loop-v.v) [
      | inl below ↦ c.loop-v.invariant.1 v below
      | inr past ↦ (
        λ y. absurd (both_ways _ (c.loop-v.invariant.2 v past) y),
        λ l. absurd (omega (arith, led_inside rises l)),
      )
    ] in
    subst (λ ms. Tells (Led ms keep) c.loop-v.members) c.graph-nodes.ensures.nodes told
