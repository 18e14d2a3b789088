use Rattle.std.proofs.Common.{◌≡◌, ◌++◌, ◌+◌, length}
use denote.Text.{Utf8}
use denote.Shadow.{shadow}
use Rattle.std.specs.Str.{chars}
use Rattle.glob_syntax.specs.Marks.{marks_of}
use Rattle.glob_syntax.proofs.mark.read_marks.Given as goal

-- the characters so far, before those of what is left; the place is how many characters are behind
abbrev pub invariant-loop-c : goal.invariant-loop-c
invariant-loop-c l =
    shadow (Utf8 l.rest)
    × (marks_of l.start (chars l.text) ≡ l.marks.items ++ marks_of l.at (chars l.rest))
    × (l.at + length (chars l.rest) ≡ l.start + length (chars l.text))

abbrev pub decreases-loop-c : goal.decreases-loop-c
decreases-loop-c l = length (chars l.rest)
