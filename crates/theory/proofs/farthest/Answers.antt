use Rattle.std.proofs.Common.{refl, arith}
use Rattle.theory.proofs.Grows.{demand_grows, all_grow}
use Rattle.theory.proofs.Quick.{demand_is_quick}
use Rattle.theory.proofs.Settles.{demand_settles, twice_settles_all}
use Rattle.theory.proofs.Trains.{demand_is_greatest, greatest_is_one, demand_is_met}
use Rattle.theory.proofs.farthest.Goals as goal

pub returns : goal.returns
returns c = record {
  value = refl;
  settles = twice_settles_all 14400 (omega arith);
  twice = twice_settles_all;
  greatest = demand_is_greatest;
  one = greatest_is_one;
  met = demand_is_met;
  quick = demand_is_quick;
  grows = demand_grows;
  together = all_grow;
  repeats = demand_settles;
}
