use Rattle.std.proofs.Common.{◌≡◌, ◌==◌, ◌++◌, ℕ, List, length, drop}
use Rattle.std.specs.List.{slice_split}
use Rattle.npm_range.specs.Reading.{reads_on}
use Rattle.npm_range.proofs.range.Reader.read_piece.Given as goal

-- what was said with the words of the piece is what is said with those that are left
abbrev pub invariant-loop-word : goal.invariant-loop-word
invariant-loop-word l =
    (goal.iterator-loop-word).can_next l.word-iterator ×
    (goal.iterator-loop-word).is_finite l.word-iterator ×
    ((more : List (List ℕ)) → reads_on l.initial.self (slice_split (λ b. b == 9) l.piece ++ more) ≡ reads_on l.self (drop (length l.yielded) (slice_split (λ b. b == 9) l.piece) ++ more))
