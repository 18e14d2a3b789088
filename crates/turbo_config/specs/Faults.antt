-- Errors of json_view, as those of this crate.
use Rattle.json_view.specs.declared.error.JsonErr.{JsonErr}
use Rattle.json_view.specs.declared.error.JsonErr.TheVariants.{NotJson as not_json, WrongKind as wrong_kind, OpenComment as open_comment, OutOfMemory as json_memory}
use Rattle.turbo_config.specs.declared.error.ConfigErr.{ConfigErr}
use Rattle.turbo_config.specs.declared.error.ConfigErr.TheVariants.{NotJson, WrongKind, OpenComment, OutOfMemory}

abbrev pub as_config : JsonErr → ConfigErr
as_config not_json = NotJson
as_config (wrong_kind pointer wanted) = WrongKind pointer wanted
as_config (open_comment at) = OpenComment at
as_config json_memory = OutOfMemory
