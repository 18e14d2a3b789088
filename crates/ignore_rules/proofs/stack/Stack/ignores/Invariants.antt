use Rattle.std.proofs.Common.{◌≡◌, ◌≤◌, ◌-◌, [], length, take, drop}
use Rattle.ignore_rules.specs.Ignored.{left_out_below}
use Rattle.ignore_rules.specs.Stacks.{rules_in}
use Rattle.ignore_rules.proofs.stack.Stack.ignores.Given as goal

-- none of the folders so far is left out
abbrev pub invariant-loop-end : goal.invariant-loop-end
invariant-loop-end l = (l.end ≤ length l.path) × (left_out_below (rules_in l.self) [] l.path ≡ left_out_below (rules_in l.self) (take l.end l.path) (drop l.end l.path))

abbrev pub decreases-loop-end : goal.decreases-loop-end
decreases-loop-end l = length l.path - l.end
