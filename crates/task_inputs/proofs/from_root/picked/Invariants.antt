use Rattle.std.proofs.Common.{◌≡◌, take}
use Rattle.std.specs.Prelude.{filter}
use Rattle.task_inputs.specs.Rooted.{far_test}
use Rattle.task_inputs.proofs.from_root.picked.Given as goal

-- those so far
abbrev pub invariant-loop-path : goal.invariant-loop-path
invariant-loop-path l = l.paths ≡ filter (far_test l.declared l.globals l.any l.wide) (take l.path-index l.walk)
