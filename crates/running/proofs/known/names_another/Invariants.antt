use Rattle.std.proofs.Common.{◌≡◌, ℕ, ◌<◌, ◌≤◌, false, ◌||◌}
use Rattle.dispatch.specs.Ticking.{masked}
use Rattle.running.proofs.known.names_another.Given as goal

abbrev pub invariant-loop-engine : goal.invariant-loop-engine
invariant-loop-engine l = (e : ℕ) → l.engines ≤ e → e < l.engine → (masked l.served e || masked l.done e) ≡ false
