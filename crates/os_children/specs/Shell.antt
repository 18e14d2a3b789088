-- The environment of a command's shell.
use Rattle.std.specs.Prelude.{ℕ, List, [], ◌∷◌, Option, Some, None, bytes_eq, if◌then◌else◌}
use Rattle.spawn_dev.specs.declared.command.Command.{Command}

-- what a name is set to, once this pair is set over what it was
abbrev pub set_over : Option (Option (List ℕ)) → List ℕ × List ℕ → List ℕ → Option (Option (List ℕ))
set_over was pair name = if bytes_eq pair.0 name then Some (Some pair.1) else was

-- once all these are, of which the first counts
abbrev pub set_all_over : Option (Option (List ℕ)) → List (List ℕ × List ℕ) → List ℕ → Option (Option (List ℕ))
set_all_over was [] name = was
set_all_over was (pair ∷ pairs) name = set_over (set_all_over was pairs name) pair name

-- what the command sees: the pairs that count as input, and behind them those that are passed on
abbrev pub var_of : Command → List ℕ → Option (Option (List ℕ))
var_of command name = set_all_over (set_all_over None command.given name) command.env name
