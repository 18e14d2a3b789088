use Rattle.std.proofs.Common.{◌≡◌, take, map}
use Rattle.workspaces.specs.Space.{owners}
use Rattle.task_inputs.specs.Homes.{home_of}
use Rattle.task_inputs.proofs.declared.all_homes.Given as goal

-- the homes so far
abbrev pub invariant-loop-owner : goal.invariant-loop-owner
invariant-loop-owner l = l.homes.items ≡ map (home_of l.config) (take l.owner (owners l.packages))
