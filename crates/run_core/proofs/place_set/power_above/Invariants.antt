use Rattle.std.proofs.Common.{◌^◌, ◌-◌, ◌≤◌}
use Rattle.run_core.specs.Trees.{IsPower}
use Rattle.run_core.proofs.place_set.power_above.Given as goal

abbrev pub invariant-loop-power : goal.invariant-loop-power
invariant-loop-power l = record {
  power : IsPower l.power;
  above : 1 ≤ l.power;
  small : l.power ≤ 2 ^ 33;
}

abbrev pub decreases-loop-power : goal.decreases-loop-power
decreases-loop-power l = 2 ^ 33 - l.power
