-- Commands that run, and one that is taken out of them.
use Rattle.std.specs.Prelude.{◌≡◌, List, ◌∷◌, ◌++◌}
use Rattle.spawn_dev.specs.declared.command.Command.{Command}

abbrev pub itself : Command → Command
itself command = command

-- the command stood in the list, and without it the list is this, in order
pub record IsTakenOut (command : Command) (before after : List Command) : Type 0 where
  pub front : List Command
  pub back : List Command
  pub was : before ≡ front ++ command ∷ back
  pub left : after ≡ front ++ back
