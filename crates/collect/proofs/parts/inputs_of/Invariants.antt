use Rattle.std.proofs.Common.{◌≡◌, take}
use Rattle.collect.specs.Steps.{inputs_at}
use Rattle.collect.proofs.parts.inputs_of.Given as goal

abbrev pub invariant-loop-place : goal.invariant-loop-place
invariant-loop-place l = l.paths ≡ inputs_at l.walk l.found (take l.place-index l.row)
