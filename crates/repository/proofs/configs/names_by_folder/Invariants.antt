use Rattle.std.proofs.Common.{◌≡◌, drop}
use Rattle.repository.specs.Reading.{homes_of}
use Rattle.repository.proofs.configs.names_by_folder.Given as goal

-- the homes of the packages that are done, which are the last ones
abbrev pub invariant-loop-p : goal.invariant-loop-p
invariant-loop-p l = l.names.entries ≡ homes_of (drop l.p l.packages.packages)
