use Rattle.std.proofs.Common.{◌≡◌, ◌++◌, not, drop, filter}
use Rattle.globs.specs.Outputs.{takes}
use Rattle.run_laws_tests.proofs.worlds.kept.Given as goal

abbrev pub invariant-loop-file : goal.invariant-loop-file
invariant-loop-file l = l.kept ++ filter (λ f. not (takes l.outs f.0)) (drop l.file-index l.files) ≡ filter (λ f. not (takes l.outs f.0)) l.files
