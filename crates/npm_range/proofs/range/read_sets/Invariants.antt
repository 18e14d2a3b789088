use Rattle.std.proofs.Common.{◌≡◌, ◌==◌, ◌++◌, ℕ, List, length, drop}
use Rattle.std.specs.List.{slice_split}
use Rattle.npm_range.specs.Grammar.{range, sets}
use Rattle.npm_range.proofs.Joined.{before_all}
use Rattle.npm_range.proofs.range.read_sets.Given as goal

-- what the text says is the sets so far, and those of the pieces that are left
abbrev pub invariant-loop-piece : goal.invariant-loop-piece
invariant-loop-piece l =
    (goal.iterator-loop-piece).can_next l.piece-iterator ×
    (goal.iterator-loop-piece).is_finite l.piece-iterator ×
    (range l.text ≡ before_all l.sets.items (sets l.is_set (drop (length l.yielded) (slice_split (λ b. b == 124) l.text))))
