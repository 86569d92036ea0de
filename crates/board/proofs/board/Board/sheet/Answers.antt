use Rattle.std.proofs.Common.{rules, ◌≡◌, ap, sym, ◌∙◌, Some}
use Rattle.std.specs.Option.{option_map}
use Rattle.board.specs.Residents.{jobs, resident_of}
use Rattle.board.proofs.board.Board.sheet.Goals as goal

pub returns-in-Ok-clause-written : goal.returns-in-Ok-clause-written
returns-in-Ok-clause-written g c =
    let found : resident_of (jobs c.args.self.now.residents) c.args.number ≡ Some c.in-Some.resident.now = sym c.resident.ensures ∙ ap (option_map (λ r. r.now)) c.in-Some.is in
    let written = c.in-Ok.ensures.written in
    record { job = c.in-Some.resident.now; found = found; long = written.0; bytes = written.1 }

pub returns-in-Err-clause-refused : goal.returns-in-Err-clause-refused
returns-in-Err-clause-refused g c =
    let found : resident_of (jobs c.args.self.now.residents) c.args.number ≡ Some c.in-Some.resident.now = sym c.resident.ensures ∙ ap (option_map (λ r. r.now)) c.in-Some.is in
    ((c.in-Some.resident.now, found, c.write_sheet.ensures.short.0 (search rules)), search rules)
