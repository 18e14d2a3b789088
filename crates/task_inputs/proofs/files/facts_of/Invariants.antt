use Rattle.std.proofs.Common.{◌≡◌, take, map}
use Rattle.ignore_rules.specs.Ignored.{is_ignored}
use Rattle.ignore_rules.specs.Stacks.{rules_in}
use Rattle.task_inputs.specs.Facts.{fact_by}
use Rattle.task_inputs.proofs.files.facts_of.Given as goal

-- the facts so far
abbrev pub invariant-loop-path : goal.invariant-loop-path
invariant-loop-path l = l.files.items ≡ map (fact_by (is_ignored (rules_in l.ignores)) l.declared l.globals) (take l.path-index l.walk)
