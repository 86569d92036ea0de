use Rattle.std.proofs.Common.{◌≡◌, List, [], ◌∷◌, ◌++◌, string_bytes, Some, sym, ap, subst, ◌∙◌, Bor}
use Rattle.std.specs.Option.{option_map}
use Rattle.std.proofs.lemmas.Option.{same_Some}
use Rattle.board.specs.Residents.{jobs, resident_of}
use Rattle.listing.specs.Answer.{Answers, granted, granted_text, refused, refused_text}
use Rattle.listing.specs.Rules.{seat_rules}
use Rattle.listing.proofs.Found.{resident_put, some_borrowed}
use Rattle.listing.proofs.Making.{made_map}
use Rattle.resident.specs.declared.resident.Resident.{Resident}
use Rattle.listing.proofs.answer.answer.Goals as goal

pub unwrap-resident-requires : goal.unwrap-resident-requires
unwrap-resident-requires c =
    let takes = c.in-Ok.ensures.granted in
    let found = resident_put (jobs c.args.board.now.residents) takes.job c.in-Ok.number takes.loaded.comes.free takes.its_number in
    some_borrowed c.resident.result takes.job (c.resident.ensures ∙ ap (λ rs. resident_of rs c.in-Ok.number) takes.gained ∙ found)

pub returns-in-Ok-clause-answer : goal.returns-in-Ok-clause-answer
returns-in-Ok-clause-answer c =
    let ruled = seat_rules c.args.board.now.platform in
    let was = jobs c.args.board.now.residents in
    let text = c.args.text.now in
    let takes = c.in-Ok.ensures.granted in
    let job = takes.job in
    let found = resident_put was job c.in-Ok.number takes.loaded.comes.free takes.its_number in
    let given : option_map (λ (y : Bor Resident). y.now) c.resident.result ≡ Some job = c.resident.ensures ∙ ap (λ rs. resident_of rs c.in-Ok.number) takes.gained ∙ found in
    let is : c.unwrap-resident.result.now ≡ job = same_Some _ _ (ap (option_map (λ (y : Bor Resident). y.now)) (sym c.unwrap-resident.ensures) ∙ given) in
    made_map c.format.result (λ s. string_bytes s ≡ granted_text c.unwrap-resident.result.now) (λ s. Answers ruled was text (jobs c.load.new.self.residents) (string_bytes s))
    (λ s p. subst (λ (rs : List Resident). Answers ruled was text rs (string_bytes s)) (sym takes.gained)
    (subst (Answers ruled was text (was ++ job ∷ [])) (sym (p ∙ ap granted_text is)) (granted job takes.loaded)))
    c.format.ensures.ok

pub returns-in-Err-clause-answer : goal.returns-in-Err-clause-answer
returns-in-Err-clause-answer c =
    let ruled = seat_rules c.args.board.now.platform in
    let was = jobs c.args.board.now.residents in
    let text = c.args.text.now in
    let refusal = c.in-Err.refusal in
    let same = c.in-Err.ensures.refused in
    made_map c.format-in-Err.result (λ s. string_bytes s ≡ refused_text refusal) (λ s. Answers ruled was text (jobs c.load.new.self.residents) (string_bytes s))
    (λ s p. subst (λ b. Answers ruled was text (jobs b.residents) (string_bytes s)) (sym same.1)
    (subst (Answers ruled was text was) (sym p) (refused refusal same.0)))
    c.format-in-Err.ensures.ok
