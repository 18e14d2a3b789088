-- What the root's turbo.json says: the global keys, and the tasks by their keys, ascending.
use Rattle.std.specs.Prelude.{ℕ, List}
use Rattle.turbo_config.specs.declared.entry.Entry.{Entry}
use Rattle.turbo_config.specs.declared.files.Globals.{Globals}

pub record RootFile : Type 0 where
  pub globals : Globals
  pub tasks : List (List ℕ × Entry)
