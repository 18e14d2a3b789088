use Rattle.std.proofs.Common.{◌≡◌, length}
use Rattle.ignore_rules.specs.Marks.{trimmed}
use Rattle.ignore_rules.proofs.line.trimmed.Given as goal

-- only spaces are cut off so far
abbrev pub invariant-loop-last : goal.invariant-loop-last
invariant-loop-last l = trimmed l.left ≡ trimmed l.fn.marks

abbrev pub decreases-loop-last : goal.decreases-loop-last
decreases-loop-last l = length l.left
