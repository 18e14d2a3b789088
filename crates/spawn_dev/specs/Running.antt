-- Lists of what runs, each with its command, and what is known of each by its place.
use Rattle.std.specs.Prelude.{ℕ, ◌==◌, ◌&&◌, not, Bool, true, List, [], ◌∷◌, Option, Some, None, is_none, if◌then◌else◌}
use Rattle.std.specs.List.{list_any}
use Rattle.rel_path.specs.Paths.{Path}
use Rattle.globs.specs.Outputs.{takes}
use Rattle.spawn_dev.specs.declared.command.Command.{Command}

-- what is known of the one at the place, and `other` where none runs
abbrev pub known_at : {X Y : Type 0} → (X → Command) → (X → Y) → Y → List X → ℕ → Y
known_at of known other [] place = other
known_at of known other (x ∷ xs) place = if place == (of x).place then known x else known_at of known other xs place

-- the command that runs at each place
abbrev pub command_at : {X : Type 0} → (X → Command) → List X → ℕ → Option Command
command_at of xs = known_at of (λ x. Some (of x)) None xs

-- no two run at one place
abbrev pub are_distinct : {X : Type 0} → (X → Command) → List X → Bool
are_distinct of [] = true
are_distinct of (x ∷ xs) = is_none (command_at of xs (of x).place) && are_distinct of xs

-- the paths that one of them owns
abbrev pub held_by : {X : Type 0} → (X → Command) → List X → Path → Bool
held_by of xs path = list_any (λ x. takes (of x).outs path) xs

-- no two of them own the path
abbrev pub own_once : {X : Type 0} → (X → Command) → List X → Path → Bool
own_once of [] path = true
own_once of (x ∷ xs) path = not (takes (of x).outs path && held_by of xs path) && own_once of xs path
