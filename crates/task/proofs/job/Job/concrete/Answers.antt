use Rattle.std.proofs.Common.{◌≡◌, ℕ, Bool, false, ◌&&◌, List, get_or, sym, ◌∙◌}
use Rattle.std.proofs.lemmas.Bool.{and_parts, and_from}
use Rattle.task.specs.declared.node.Node.{Node}
use Rattle.task.specs.Concrete.{Led, Member, IsConcrete}
use Rattle.task.specs.Flaws.{graph}
use Rattle.task.specs.Picks.{by_choice}
use Rattle.task.specs.Tables.{Tells, leads}
use Rattle.task.proofs.Leading.{told_same}
use Rattle.task.proofs.job.Job.concrete.Goals as goal

made : (ns : List Node) (choice : ℕ) (kept edges : List (List Bool)) (members : List Bool) → ((u v : ℕ) → leads kept u v ≡ by_choice ns choice u v)
    → Tells (Led ns (leads kept)) members → ((u v : ℕ) → leads edges u v ≡ (leads kept u v && get_or members u false)) → IsConcrete ns choice (record { members = members; edges = edges })
made ns choice kept edges members same told from =
    let tells : Tells (Member ns choice) members = told_same ns (leads kept) (by_choice ns choice) same members told in
    record {
      nodes = tells;
      edges = λ u v. (
        λ y. let (k, m) = and_parts (leads kept u v) (get_or members u false) (sym (from u v) ∙ y) in ((tells u).0 m, sym (same u v) ∙ k),
        λ p. from u v ∙ and_from (leads kept u v) (get_or members u false) (same u v ∙ p.1) ((tells u).1 p.0),
      );
    }

pub returns : goal.returns
returns c =
    made (graph c.args.self.now) c.args.choice c.kept_by_choice-kept.result c.among.result c.led-members.result c.kept_by_choice-kept.ensures.same c.led-members.ensures c.among.ensures
