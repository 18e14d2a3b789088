-- What runs in the system's world.
use Rattle.std.specs.Prelude.{ℕ, List, [], length, None, false}
use Rattle.os_edge.specs.declared.folders.TheConstants.{REACH}
use Rattle.tree_dev.specs.Tree.{TreeState}
use Rattle.spawn_dev.specs.declared.command.Command.{Command}
use Rattle.spawn_dev.specs.Effects.{no_effect}
use Rattle.spawn_dev.specs.Running.{command_at}
use Rattle.spawn_dev.specs.Spawn.{Runs}
use Rattle.os_children.specs.Taking.{itself}

-- these commands run, oldest first, and nothing else is told
abbrev pub runs_of : List Command → ℕ → Runs (Unit {0})
runs_of commands faults = record {
  book = tt;
  at = command_at itself commands;
  will = λ _. no_effect;
  steps = [];
  count = length commands;
  faults = faults;
}

-- no file is told
abbrev pub state_with : Runs (Unit {0}) → ℕ → TreeState (Runs (Unit {0}))
state_with runs faults = record {
  files = λ _. None;
  held = λ _. false;
  rest = runs;
  reach = REACH;
  faults = faults;
}
