use Rattle.std.proofs.Common.{◌≡◌, ◌++◌, drop}
use Rattle.turbo_config.proofs.entry.add_all.Given as goal

-- the texts so far, and those that are left
abbrev pub invariant-loop-text : goal.invariant-loop-text
invariant-loop-text l = l.array ++ drop l.text-index l.texts ≡ l.initial.array ++ l.texts
