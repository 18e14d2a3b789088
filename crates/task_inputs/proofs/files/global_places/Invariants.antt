use Rattle.std.proofs.Common.{◌≡◌, take}
use Rattle.workspaces.specs.Lists.{places}
use Rattle.task_inputs.specs.declared.files.FileFacts.{FileFacts}
use Rattle.task_inputs.proofs.files.global_places.Given as goal

-- the places so far
abbrev pub invariant-loop-place : goal.invariant-loop-place
invariant-loop-place l = l.found.items ≡ places (λ (f : FileFacts). f.global) (take l.place l.files)
