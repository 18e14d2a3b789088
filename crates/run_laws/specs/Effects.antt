-- What each command does.
use Rattle.spawn_dev.specs.Effects.{Seen}
use Rattle.spawn_dev.specs.declared.effect.Effect.{Effect}

-- what each command does, by all that it may depend on
abbrev pub Book : Type 0
Book = Seen → Effect
