-- What a stage holds.
use Rattle.std.specs.Prelude.{string_bytes}
use Rattle.sample.specs.States.{State, state_at}
use Rattle.sample.specs.declared.stage.Stage.{Stage}

abbrev pub state_in : Stage → State
state_in stage =
    state_at stage.world stage.store stage.spare stage.pages (string_bytes stage.lines)
