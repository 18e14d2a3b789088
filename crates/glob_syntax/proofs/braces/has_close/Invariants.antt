use Rattle.std.proofs.Common.{◌≡◌, drop}
use Rattle.glob_syntax.specs.Braces.{has_close}
use Rattle.glob_syntax.proofs.braces.has_close.Given as goal

-- no `}` so far
abbrev pub invariant-loop-token : goal.invariant-loop-token
invariant-loop-token l = has_close l.tokens ≡ has_close (drop l.token-index l.tokens)
