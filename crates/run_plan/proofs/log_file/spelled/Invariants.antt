use Rattle.std.proofs.Common.{◌≡◌, ◌++◌, string_bytes}
use Rattle.run_laws.specs.Plans.{spelled}
use Rattle.run_plan.proofs.log_file.spelled.Given as goal

abbrev pub invariant-loop-c : goal.invariant-loop-c
invariant-loop-c l = string_bytes l.name ++ spelled l.c-iterator.rest.now ≡ spelled l.task
