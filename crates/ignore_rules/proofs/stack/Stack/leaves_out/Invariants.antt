use Rattle.std.proofs.Common.{◌≡◌, ◌≤◌, None, length, take, drop}
use Rattle.ignore_rules.specs.Ignored.{verdict}
use Rattle.ignore_rules.specs.Stacks.{rules_in}
use Rattle.ignore_rules.proofs.stack.Stack.leaves_out.Given as goal

-- no file from this depth on says anything
abbrev pub invariant-loop-depth : goal.invariant-loop-depth
invariant-loop-depth l = (l.depth ≤ length l.path) × (verdict (rules_in l.self) l.is_folder (take l.depth l.path) (drop l.depth l.path) ≡ None)

abbrev pub decreases-loop-depth : goal.decreases-loop-depth
decreases-loop-depth l = l.depth
