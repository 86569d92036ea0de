use Rattle.std.proofs.Common.{rules, ◌≡◌, ℕ, ◌<◌, ◌≢◌, length, get_or}
use Rattle.text.proofs.Cuts.{cut_at}
use Rattle.text.proofs.split.split_once.Goals as goal

pub returns : goal.returns
returns c =
    let bs = c.args.bytes.now in
    let i = c.in_ok-at.at in
    let first : (i < length bs) × (get_or bs i 0 ≡ c.args.stop) × ((k : ℕ) → k < i → get_or bs k 0 ≢ c.args.stop) = search rules in
    cut_at c.args.stop i bs first.0 first.1 first.2
