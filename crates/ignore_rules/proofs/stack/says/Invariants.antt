use Rattle.std.proofs.Common.{◌≡◌, length}
use Rattle.ignore_rules.specs.Ignored.{says}
use Rattle.ignore_rules.proofs.stack.says.Given as goal

-- none of the rules behind takes the path
abbrev pub invariant-loop-rule : goal.invariant-loop-rule
invariant-loop-rule l = says l.is_folder l.below l.fn.rules ≡ says l.is_folder l.below l.left

abbrev pub decreases-loop-rule : goal.decreases-loop-rule
decreases-loop-rule l = length l.left
