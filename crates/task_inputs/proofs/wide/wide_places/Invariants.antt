use Rattle.std.proofs.Common.{◌≡◌, take}
use Rattle.workspaces.specs.Lists.{places}
use Rattle.input_entries.specs.Entries.{any_wide}
use Rattle.task_inputs.proofs.wide.wide_places.Given as goal

-- the places so far
abbrev pub invariant-loop-place : goal.invariant-loop-place
invariant-loop-place l = l.found.items ≡ places (any_wide l.globs) (take l.place l.walk)
