-- Commands that own and read nothing.
use Rattle.std.specs.Prelude.{◌≡◌, []}
use Rattle.spawn_dev.specs.declared.command.Command.{Command}

pub record IsPlain (command : Command) : Type 0 where
  pub outs : command.outs.mine ≡ []
  pub above : command.above ≡ []
  pub reads : command.reads ≡ []
