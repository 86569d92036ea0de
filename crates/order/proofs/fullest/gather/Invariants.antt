use Rattle.std.proofs.Common.{◌≤◌, length}
use Rattle.few.specs.Few.{items}
use Rattle.order.specs.Fullest.{candidate}
use Rattle.order.proofs.Tagging.{GathersAs}
use Rattle.order.proofs.fullest.gather.Given as goal

abbrev pub invariant-loop-engine : goal.invariant-loop-engine
invariant-loop-engine g l = record {
  count : length (items l.candidates) ≤ l.engine;
  gathers : GathersAs (candidate l.loads) (g.R.Roster.tags l.roster) l.tag l.engine (items l.candidates);
}
