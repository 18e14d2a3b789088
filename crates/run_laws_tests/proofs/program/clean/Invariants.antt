use Rattle.std.proofs.Common.{◌≡◌}
use Rattle.run_laws.specs.Clean.{clean_upto}
use Rattle.run_laws_tests.specs.Books.{effect_of}
use Rattle.run_laws_tests.proofs.program.clean.Given as goal

abbrev pub invariant-loop-place : goal.invariant-loop-place
invariant-loop-place l = l.all.items ≡ clean_upto l.mode (effect_of l.rules) l.listing l.place
