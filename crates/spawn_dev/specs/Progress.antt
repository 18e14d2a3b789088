-- What runs in a world in memory, and the steps so far.
use Rattle.std.specs.Prelude.{ℕ, Bool, List, [], ◌∷◌, map, Option}
use Rattle.std.specs.List.{list_all}
use Rattle.rel_path.specs.Paths.{Path}
use Rattle.globs.specs.OwnedFiles.{owns_all}
use Rattle.spawn_dev.specs.declared.command.Command.{Command}
use Rattle.spawn_dev.specs.declared.command.Step.{Step}
use Rattle.spawn_dev.specs.declared.command.Step.TheVariants.{Start, End}
use Rattle.spawn_dev.specs.declared.effect.Running.{Running}
use Rattle.spawn_dev.specs.declared.effect.Effect.{Effect}
use Rattle.spawn_dev.specs.Effects.{no_effect}
use Rattle.spawn_dev.specs.Running.{known_at, command_at, held_by, own_once}

abbrev pub command_of : Running → Command
command_of run = run.command

-- the places of those that run, in order of start
abbrev pub places_in : List Running → List ℕ
places_in running = map (λ run. run.command.place) running

-- the command that runs at each place
abbrev pub runs_at : List Running → ℕ → Option Command
runs_at running = command_at command_of running

-- what the command of each place will do
abbrev pub will_at : List Running → ℕ → Effect
will_at running = known_at command_of (λ run. run.effect) no_effect running

-- the paths that may change
abbrev pub held_at : List Running → Path → Bool
held_at running = held_by command_of running

-- no two own the path
abbrev pub owned_once : List Running → Path → Bool
owned_once running = own_once command_of running

-- each will write files that its command owns
abbrev pub own_files : List Running → Bool
own_files running = list_all (λ run. owns_all run.command.outs run.effect.files) running

-- the places of the starts
abbrev pub starts_in : List Step → List ℕ
starts_in [] = []
starts_in (Start command ∷ steps) = command.place ∷ starts_in steps
starts_in (End ended ∷ steps) = starts_in steps
