use Rattle.std.proofs.Common.{◌≡◌, ◌++◌, drop}
use Rattle.run_laws.specs.Plans.{spelled}
use Rattle.run_laws_tests.proofs.worlds.push_spelled.Given as goal

abbrev pub invariant-loop-byte : goal.invariant-loop-byte
invariant-loop-byte l = l.to.items ++ spelled (drop l.byte-index l.task) ≡ l.initial.to.items ++ spelled l.task
