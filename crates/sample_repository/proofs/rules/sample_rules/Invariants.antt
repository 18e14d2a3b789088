use Rattle.std.proofs.Common.{◌≡◌}
use Rattle.sample_repository.specs.Repository.{rules_of_first}
use Rattle.sample_repository.proofs.rules.sample_rules.Given as goal

abbrev pub invariant-loop-number : goal.invariant-loop-number
invariant-loop-number l = l.rules.items ≡ rules_of_first l.number
