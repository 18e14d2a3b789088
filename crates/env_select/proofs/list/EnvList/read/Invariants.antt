use Rattle.std.proofs.Common.{true, false, take}
use Rattle.env_select.specs.Index.{Indexes}
use Rattle.env_select.proofs.list.EnvList.read.Given as goal

-- the patterns of the texts so far
abbrev pub invariant-loop-text : goal.invariant-loop-text
invariant-loop-text l = Indexes false (take l.text-index l.texts) l.included × Indexes true (take l.text-index l.texts) l.excluded
