use Rattle.std.proofs.Common.{◌≡◌, ℕ, ◌<◌, false, refl, sym, subst, rules}
use Rattle.std.specs.Option.{MatchOption}
use Rattle.std.specs.declared.option.Option.{Option}
use Rattle.std.specs.declared.option.Option.TheVariants.{Some, None}
use borrow.Author.Tests.{tests}
use Rattle.std.proofs.lemmas.Bool.{both_ways}
use Rattle.std.proofs.lemmas.Iterator.{first_from_Range}
use Rattle.few.proofs.Below.{first_below}
use Rattle.task.specs.declared.node.Numbering.TheVariants.{Choice}
use Rattle.task.specs.Flaws.{graph}
use Rattle.task.specs.Picks.{numbers}
use Rattle.window.specs.Path.{FirstPossible, Possible}
use Rattle.window.proofs.possible.first_possible.Goals as goal

is_first : (r : Option ℕ) (P Q : ℕ → Type 0) (R : ℕ → Type 0) (n m : ℕ) → n ≡ m → ((b : ℕ) → b < m → Q b → ((k : ℕ) → k < b → P k) → R b)
    → MatchOption r ((k : ℕ) → k < n → P k) (λ b. (b < n) × Q b × ((k : ℕ) → k < b → P k)) → MatchOption r ((k : ℕ) → k < m → P k) R
is_first None P Q R n m e made none = subst (λ (a : ℕ). (k : ℕ) → k < a → P k) e none
is_first (Some b) P Q R n m e made found = made b (subst (λ (a : ℕ). b < a) e found.0) found.1 found.2

pub returns : goal.returns
returns c =
    let j = c.args.job.now in
    let ns = graph j in
    let Fits : ℕ → Type 0 = λ b. Possible ns b j.deadline in
    let found = first_from_Range _ _ _ _ Fits (λ b. Fits b → ⊥) c.find.ensures.ran (λ x q k. search (rules, tests))
    (λ x q k. (search rules, λ p. both_ways false refl (k.called.met.1.1 (subst Fits (sym k.shows) p)))) in
    is_first c.find.result (λ b. Fits b → ⊥) Fits (FirstPossible ns j.deadline) c.choices.result (numbers Choice ns) c.choices.ensures
    (λ b below fits before. record { is_choice = below; possible = fits; none_before = before })
    (first_below c.find.result (λ b. Fits b → ⊥) Fits c.choices.result found)
