use Rattle.std.proofs.Common.{rules, ◌≡◌, ℕ, List, [], ◌++◌, string_bytes, Option, sym, ap, ◌∙◌, subst, append_assoc, append-nil, Bor}
use Rattle.board.specs.Residents.{jobs}
use Rattle.engine.specs.declared.calendar.Calendar.{Calendar}
use Rattle.listing.specs.Answer.{Answers}
use Rattle.listing.specs.Listing.{Answered, none, one}
use Rattle.listing.specs.Rules.{seat_rules}
use Rattle.std.specs.Option.{option_map}
use Rattle.listing.proofs.listing.answers.Goals as goal

pub loop-left-preserved : goal.loop-left-preserved
loop-left-preserved c =
    let first = c.args.board.now in
    let ruled = seat_rules first.platform in
    let inv = c.loop-left.invariant in
    let lines = string_bytes c.loop-left.lines in
    let more = string_bytes c.in_ok-answer.field-0 in
    let after = jobs c.answer.new.board.residents in
    let answered : Answers ruled (jobs c.loop-left.board.residents) c.first_text.result.0.now after more =
    subst (λ (p : Calendar). Answers (seat_rules p) (jobs c.loop-left.board.residents) c.first_text.result.0.now after more) inv.0 c.in_ok-answer.ensures.answer in
    let pushed : string_bytes c.push_str.new.self ≡ lines ++ more = search rules in (
      c.answer.ensures.kept ∙ inv.0,
      λ bs rest.
          let whole = subst (λ (o : Option (Bor (List ℕ))). Answered ruled (jobs c.loop-left.board.residents) (option_map (λ x. x.now) o) (more ++ bs)) (sym c.in-Some.is) (one c.first_text.ensures answered rest) in
          subst (Answered ruled (jobs first.residents) (option_map (λ x. x.now) c.args.texts)) (sym (append_assoc lines more bs) ∙ ap (λ b. b ++ bs) (sym pushed)) (inv.1 (more ++ bs) whole),
    )

pub returns : goal.returns
returns c =
    let first = c.args.board.now in
    let ruled = seat_rules first.platform in
    let end = subst (λ (o : Option (Bor (List ℕ))). Answered ruled (jobs c.loop-left.board.residents) (option_map (λ x. x.now) o) []) (sym c.in_default.is) none in
    subst (Answered ruled (jobs first.residents) (option_map (λ x. x.now) c.args.texts)) (append-nil (string_bytes c.loop-left.lines)) (c.loop-left.invariant.1 [] end)
