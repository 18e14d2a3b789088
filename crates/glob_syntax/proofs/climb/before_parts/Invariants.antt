use Rattle.std.proofs.Common.{◌≡◌, ◌≤◌, drop, length}
use Rattle.glob_syntax.specs.Outlook.{before_parts}
use Rattle.glob_syntax.proofs.climb.before_parts.Given as goal

-- the outlook of the parts behind
abbrev pub invariant-loop-left : goal.invariant-loop-left
invariant-loop-left l = (l.left ≤ length l.parts) × (l.outlook ≡ before_parts (drop l.left l.parts) l.later)

abbrev pub decreases-loop-left : goal.decreases-loop-left
decreases-loop-left l = l.left
