use Rattle.std.proofs.Common.{◌≡◌, drop}
use Rattle.run_laws.specs.Clean.{seen}
use Rattle.run_laws_tests.specs.Books.{effect_of}
use Rattle.run_laws_tests.proofs.program.effect_at.Given as goal

abbrev pub invariant-loop-rule : goal.invariant-loop-rule
invariant-loop-rule l = effect_of l.rules (seen l.listing l.place l.outcomes) ≡ effect_of (drop l.rule-index l.rules) (seen l.listing l.place l.outcomes)
