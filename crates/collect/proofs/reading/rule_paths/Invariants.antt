use Rattle.std.proofs.Common.{◌≡◌, ◌&&◌, filter, take}
use Rattle.std.specs.Prelude.{not}
use Rattle.task_inputs.specs.Homes.{declared_in}
use Rattle.task_inputs.specs.Ignores.{is_ignore_file}
use Rattle.collect.proofs.reading.rule_paths.Given as goal

-- those of the paths so far
abbrev pub invariant-loop-path : goal.invariant-loop-path
invariant-loop-path l = l.paths ≡ filter (λ path. is_ignore_file path && not (declared_in l.declared path)) (take l.path-index l.walk)
