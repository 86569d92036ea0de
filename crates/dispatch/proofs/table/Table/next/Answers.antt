use Rattle.std.proofs.Common.{◌≡◌, [], None, Some, map, get_or, subst, sym, ap, ◌∙◌}
use Rattle.std.specs.Option.{option_map}
use Rattle.std.proofs.lemmas.List.{nil_from_length}
use Rattle.dispatch.specs.declared.candidate.Candidate.{Candidate}
use Rattle.dispatch.specs.Candidate.{key, named}
use Rattle.dispatch.specs.Choosing.{all_candidates}
use Rattle.dispatch.specs.Table.{slots_in}
use Rattle.order.specs.Least.{FirstLeast}
use Rattle.dispatch.proofs.First.{by_key, first_at}
use Rattle.dispatch.proofs.Gathering.{first_in_all, first_of}
use Rattle.dispatch.proofs.table.Table.next.Goals as goal

pub returns-in_err-first : goal.returns-in_err-first
returns-in_err-first c =
    let b = c.args.self.now in
    let found = c.as_slice.ensures.items ∙ c.candidates-found.ensures in
    let none : all_candidates c.args.engine (slots_in b) ≡ [] = sym found ∙ nil_from_length _ c.in_err-first.ensures in
    c.from_residual.ensures ∙ sym (ap (option_map named) (first_in_all c.args.engine b.clock None (slots_in b) b.in_time ∙ ap (λ l. first_of None (map key l)) none))

pub returns : goal.returns
returns c =
    let b = c.args.self.now in
    let all = all_candidates c.args.engine (slots_in b) in
    let found = c.as_slice.ensures.items ∙ c.candidates-found.ensures in
    let again = c.as_slice-2.ensures.items ∙ c.candidates-found.ensures in
    let i = c.in_ok-first.first in
    let blank : Candidate = record { due = 0; job = 0; node = 0 } in
    let at = subst (λ l. FirstLeast by_key l i) found c.in_ok-first.ensures in
    let first = first_at all i at blank in
    let read = c.named.ensures ∙ ap (λ l. named (key (get_or l i blank))) again in
    ap Some read ∙ sym (ap (option_map named) (first_in_all c.args.engine b.clock None (slots_in b) b.in_time ∙ first))
