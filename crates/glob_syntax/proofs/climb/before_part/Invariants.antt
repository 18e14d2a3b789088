use Rattle.std.proofs.Common.{◌≡◌, ◌≤◌, drop, length}
use Rattle.glob_syntax.specs.Pieces.{seen}
use Rattle.glob_syntax.specs.Outlook.{before_part}
use Rattle.glob_syntax.proofs.climb.before_part.Given as goal

-- the outlook of the tokens behind
abbrev pub invariant-loop-left : goal.invariant-loop-left
invariant-loop-left l = (l.left ≤ length l.part) × (l.outlook ≡ before_part (seen (drop l.left l.part)) l.fn.later)

abbrev pub decreases-loop-left : goal.decreases-loop-left
decreases-loop-left l = l.left
