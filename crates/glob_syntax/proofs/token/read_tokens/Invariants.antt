use Rattle.std.proofs.Common.{◌≡◌, ◌++◌, IsTrue, false, None, length}
use Rattle.glob_syntax.specs.Tokens.{has_end, tokens_of}
use Rattle.glob_syntax.proofs.token.read_tokens.Given as goal

-- the tokens so far, before those of what is left
abbrev pub invariant-loop-mark : goal.invariant-loop-mark
invariant-loop-mark l =
    (tokens_of None l.marks ≡ l.tokens.items ++ tokens_of None l.rest)
    × (IsTrue l.none_ends → has_end l.rest ≡ false)

abbrev pub decreases-loop-mark : goal.decreases-loop-mark
decreases-loop-mark l = length l.rest
