use Rattle.std.proofs.Common.{◌≡◌, take}
use Rattle.std.specs.Prelude.{filter}
use Rattle.task_inputs.specs.Tables.{takes_at}
use Rattle.task_inputs.proofs.table.taken_of.Given as goal

-- those taken so far
abbrev pub invariant-loop-place : goal.invariant-loop-place
invariant-loop-place l = l.taken ≡ filter (takes_at l.task l.files l.walk) (take l.place-index l.places)
