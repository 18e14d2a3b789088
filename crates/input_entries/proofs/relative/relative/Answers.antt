use Rattle.input_entries.proofs.Behind.{names_behind}
use Rattle.input_entries.proofs.relative.relative.Goals as goal

pub path_of-requires : goal.path_of-requires
path_of-requires c = names_behind c.components.result.now c.components-2.result.now c.in-Some.rest.now c.in-Some.ensures (rw c.components-2.ensures.value c.components-2.ensures.names)
