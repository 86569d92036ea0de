use Rattle.std.proofs.Common.{◌≡◌, ℕ, ◌<◌, ◌≤◌, length, get_or}
use Rattle.window.proofs.Laying.{LaidIn}
use Rattle.window.specs.Windows.{position}
use Rattle.window.proofs.windows.windows.Given as goal

abbrev pub invariant-loop-v : goal.invariant-loop-v
invariant-loop-v g l =
    (length l.opens ≡ 24) × (length l.ends ≡ 24)
    × ((w : ℕ) → w < l.v → LaidIn l.nodes l.concrete (λ u. g.R.SlackRule.local l.rule (position l.deadline l.lengths u)) l.opens l.ends w)
    × ((w : ℕ) → l.v ≤ w → (get_or l.opens w 0 ≡ 0) × (get_or l.ends w 0 ≡ 0))
