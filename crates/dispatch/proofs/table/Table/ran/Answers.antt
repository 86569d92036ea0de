use Rattle.std.proofs.Common.{rules, ◌≡◌, ℕ, cond, None, Option, get_or, ap, ◌∙◌}
use Rattle.std.specs.Option.{option_map}
use Rattle.few.proofs.Filled.{filled}
use Rattle.dispatch.specs.declared.candidate.Next.{Next}
use Rattle.dispatch.specs.Candidate.{key, named}
use Rattle.dispatch.specs.Ticking.{masked, ran_on}
use Rattle.dispatch.proofs.table.Table.ran.Goals as goal

pub returns : goal.returns
returns c = λ e below.
    let m = c.args.served in
    let P : ℕ → Option Next → Type 0 = λ i y. y ≡ ran_on i c.args.self.now m in
    filled c.from_fn.ensures.items P (λ i y f' short called. (
      let is : y ≡ cond (masked m i) (option_map named (option_map key (get_or c.firsts-firsts.result i None))) None = search rules in
          is ∙ ap (λ o. cond (masked m i) (option_map named o) None) (c.firsts-firsts.ensures i short),
      search rules,
    )) e None below
