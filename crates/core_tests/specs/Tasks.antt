-- The tasks of a scheduler, where all that have a command are to run.
use Rattle.run_core.specs.Greedy.{Tasks}
use Rattle.run_core.specs.Core.{Machine, rules, has_command}

abbrev pub tasks : Machine → Tasks
tasks m = record { rules = rules m; to_run = has_command m }
