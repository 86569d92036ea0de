use Rattle.std.proofs.Common.{rules, ◌≡◌, ℕ, ◌<◌, ◌≢◌, length, get_or, refl}
use Rattle.std.proofs.ByRecursion.{All-from_get_or}
use Rattle.text.proofs.Cuts.{cut_at}
use Rattle.play.proofs.words.cut.Goals as goal

pub returns-in-Some : goal.returns-in-Some
returns-in-Some c =
    let bs = c.args.line.now in
    let i = c.in-Some.at in
    let first : (i < length bs) × (get_or bs i 0 ≡ 32) × ((k : ℕ) → k < i → get_or bs k 0 ≢ 32) = search rules in
    cut_at 32 i bs first.0 first.1 first.2

pub returns-in-None : goal.returns-in-None
returns-in-None c =
    let bs = c.args.line.now in
    let none : (k : ℕ) → k < length bs → get_or bs k 0 ≢ 32 = search rules in
    (refl, All-from_get_or (λ x. x ≢ 32) bs 0 none)
