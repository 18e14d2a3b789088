use Rattle.std.proofs.Common.{◌≡◌, drop}
use Rattle.glob_syntax.specs.Tokens.{has_end}
use Rattle.glob_syntax.proofs.class.has_end.Given as goal

-- no end so far, and no `/`
abbrev pub invariant-loop-mark : goal.invariant-loop-mark
invariant-loop-mark l = has_end l.marks ≡ has_end (drop l.mark-index l.marks)
