use Rattle.std.proofs.Common.{◌≡◌, ◌≤◌, ℕ, [], Some, length}
use Rattle.glob_syntax.specs.Tokens.{closes, tokens_of}
use Rattle.glob_syntax.proofs.class.read_class.Given as goal

-- the class has not ended so far
abbrev pub invariant-loop-mark : goal.invariant-loop-mark
invariant-loop-mark l =
    (length l.rest ≤ length l.marks)
    × (closes [] l.marks ≡ closes l.body.items l.rest)
    × ((at : ℕ) → tokens_of (Some (at, [])) l.marks ≡ tokens_of (Some (at, l.body.items)) l.rest)

abbrev pub decreases-loop-mark : goal.decreases-loop-mark
decreases-loop-mark l = length l.rest
