use Rattle.std.proofs.Common.{◌≡◌, ◌++◌, take}
use Rattle.task_inputs.proofs.union.push_all.Given as goal

-- those so far
abbrev pub invariant-loop-place : goal.invariant-loop-place
invariant-loop-place l = l.places.items ≡ l.initial.places.items ++ take l.place-index l.more
