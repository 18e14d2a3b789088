use Rattle.std.proofs.Common.{ap}
use Rattle.os_edge.specs.World.{runs_of, state_with}
use Rattle.os_edge.proofs.world.OsWorld.new.Goals as goal

pub returns-clause-state : goal.returns-clause-state
returns-clause-state g c = ap (λ commands. state_with (runs_of commands 0) 0) c.new.ensures

pub returns-clause-runs : goal.returns-clause-runs
returns-clause-runs g c = ap (λ commands. runs_of commands 0) c.new.ensures
