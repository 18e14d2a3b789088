use Rattle.std.proofs.Common.{◌≡◌, map, take}
use Rattle.collect.specs.Steps.{rules_file}
use Rattle.collect.proofs.rules.stack_of.Given as goal

abbrev pub invariant-loop-file : goal.invariant-loop-file
invariant-loop-file l = l.rules.items ≡ map rules_file (take l.file-index l.files)
