use Rattle.std.proofs.Common.{◌≡◌, ◌==◌, ◌++◌, ℕ, List, length, drop}
use Rattle.std.specs.List.{slice_split}
use Rattle.npm_range.specs.Grammar.{set, words_of}
use Rattle.npm_range.specs.Reading.{reads_on}
use Rattle.npm_range.proofs.range.read_set.Given as goal

-- what the text says is what was read, with the words of the pieces that are left
abbrev pub invariant-loop-piece : goal.invariant-loop-piece
invariant-loop-piece l =
    (goal.iterator-loop-piece).can_next l.piece-iterator ×
    (goal.iterator-loop-piece).is_finite l.piece-iterator ×
    (set l.text ≡ reads_on l.reader (words_of (drop (length l.yielded) (slice_split (λ b. b == 32) l.text))))
