use Rattle.std.proofs.Common.{◌≡◌, ◌≤◌, drop, length}
use Rattle.glob_syntax.specs.Pieces.{alternatives_of}
use Rattle.glob_syntax.specs.Outlook.{outlook_of}
use Rattle.glob_syntax.proofs.climb.climb_of.Given as goal

-- the outlook of the pieces behind
abbrev pub invariant-loop-left : goal.invariant-loop-left
invariant-loop-left l = (l.left ≤ length l.pieces) × (l.outlook ≡ outlook_of (alternatives_of (drop l.left l.pieces)))

abbrev pub decreases-loop-left : goal.decreases-loop-left
decreases-loop-left l = l.left
