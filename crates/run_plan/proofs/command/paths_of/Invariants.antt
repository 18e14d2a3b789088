use Rattle.std.proofs.Common.{◌≡◌, ◌++◌, drop, map}
use Rattle.run_plan.proofs.command.paths_of.Given as goal

abbrev pub invariant-loop-file : goal.invariant-loop-file
invariant-loop-file l = l.paths ++ map (λ f. f.0) (drop l.file-index l.files) ≡ map (λ f. f.0) l.files
