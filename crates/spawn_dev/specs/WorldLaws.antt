-- The law of held paths in a world in memory.
use Rattle.std.specs.Prelude.{◌≡◌, ℕ, true, List, IsTrue}
use Rattle.rel_path.specs.Paths.{Path}
use Rattle.spawn_dev.specs.declared.book.Rule.{Rule}
use Rattle.spawn_dev.specs.declared.command.Step.{Step}
use Rattle.spawn_dev.specs.declared.effect.Running.{Running}
use Rattle.spawn_dev.specs.Progress.{command_of, held_at}
use Rattle.spawn_dev.specs.Running.{are_distinct}
use Rattle.spawn_dev.specs.RunningLaws.{owner_in}
use Rattle.spawn_dev.specs.Spawn.{IsOwned}
use Rattle.spawn_dev.specs.World.{runs_in}

-- what is held a running command owns
pub held_is_owned : (book : List Rule) (running : List Running) (steps : List Step) (faults : ℕ) → IsTrue (are_distinct command_of running) → (path : Path) → held_at running path ≡ true
    → IsOwned (runs_in book running steps faults) path
held_is_owned book running steps faults all path held =
    let o = owner_in command_of running path all held in
    record { place = o.one.command.place; command = o.one.command; at = o.at; takes_it = o.takes_it }
