use Rattle.std.proofs.Common.{◌≡◌, drop}
use Rattle.turbo_config.specs.Globs.{fault_of, first_glob_fault}
use Rattle.turbo_config.proofs.glob_fault.check_entries.Given as goal

-- no entry so far has a fault
abbrev pub invariant-loop-index : goal.invariant-loop-index
invariant-loop-index l = first_glob_fault (fault_of l.kind) l.at 0 l.texts ≡ first_glob_fault (fault_of l.kind) l.at l.index (drop l.index l.texts)
