use Rattle.std.proofs.Common.{◌≡◌, ◌++◌, drop}
use Rattle.repository.specs.Reading.{script_names}
use Rattle.repository.proofs.configs.script_names.Given as goal

-- the names so far, and those of the packages that are left
abbrev pub invariant-loop-p : goal.invariant-loop-p
invariant-loop-p l = l.names ++ script_names (drop l.p l.packages.packages) ≡ script_names l.packages.packages
