-- What runs in a world in memory, and which command ends.
use Rattle.std.specs.Prelude.{ℕ, ◌%◌, List, length, get_or}
use Rattle.spawn_dev.specs.Progress.{runs_at, will_at}
use Rattle.spawn_dev.specs.Spawn.{Runs}
use Rattle.spawn_dev.specs.declared.book.Rule.{Rule}
use Rattle.spawn_dev.specs.declared.command.Step.{Step}
use Rattle.spawn_dev.specs.declared.effect.Running.{Running}

-- these run, after these steps
abbrev pub runs_in : List Rule → List Running → List Step → ℕ → Runs (List Rule)
runs_in book running steps faults = record {
  book = book;
  at = runs_at running;
  will = will_at running;
  steps = steps;
  count = length running;
  faults = faults;
}

-- Which of so many ends at the wait of this number: the told one, counted around, and past the list's end the first.
abbrev pub ends_at : List ℕ → ℕ → ℕ → ℕ
ends_at ends number count = get_or ends number 0 % count
