use Rattle.std.proofs.Common.{◌≡◌, [], take}
use Rattle.task_inputs.specs.Homes.{configured_in}
use Rattle.kept_packages.proofs.files.has_root_task.Given as goal

-- none of the scripts so far has a definition
abbrev pub invariant-loop-script : goal.invariant-loop-script
invariant-loop-script l = configured_in l.repository.config l.root (take l.script-index l.script-items) ≡ []
