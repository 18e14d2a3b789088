use Rattle.std.proofs.Common.{◌≡◌, ◌++◌, length}
use Rattle.env_select.specs.Patterns.{signs_of}
use Rattle.env_select.proofs.pattern.read_signs.Given as goal

-- the signs so far, before those of what is left
abbrev pub invariant-loop-byte : goal.invariant-loop-byte
invariant-loop-byte l = signs_of l.text ≡ l.signs.items ++ signs_of l.rest

abbrev pub decreases-loop-byte : goal.decreases-loop-byte
decreases-loop-byte l = length l.rest
