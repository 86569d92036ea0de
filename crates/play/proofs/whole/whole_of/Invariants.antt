use Rattle.std.proofs.Common.{◌≡◌, map, take}
use Rattle.few.specs.Few.{items}
use Rattle.play.proofs.whole.whole_of.Given as goal

abbrev pub invariant-loop-engine : goal.invariant-loop-engine
invariant-loop-engine l = items l.tags ≡ map (λ e. e.tag) (take l.engine-index l.engines)
