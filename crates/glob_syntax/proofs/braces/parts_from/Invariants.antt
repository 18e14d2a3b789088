use Rattle.std.proofs.Common.{◌≡◌, ◌+◌, ◌≤◌, drop}
use Rattle.glob_syntax.specs.Braces.{parts_from}
use Rattle.glob_syntax.proofs.braces.parts_from.Given as goal

-- the parts so far, and those of what is left
abbrev pub invariant-loop-token : goal.invariant-loop-token
invariant-loop-token l = (parts_from l.tokens + 1 ≡ l.parts + parts_from (drop l.token-index l.tokens)) × (l.parts ≤ l.token-index + 1)
