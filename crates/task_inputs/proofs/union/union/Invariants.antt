use Rattle.std.proofs.Common.{◌≡◌, ◌++◌, ◌+◌, length}
use Rattle.task_inputs.specs.Facts.{merged}
use Rattle.task_inputs.proofs.union.union.Given as goal

-- those so far, before those that are left
abbrev pub invariant-loop-x : goal.invariant-loop-x
invariant-loop-x l = l.both.items ++ merged (length l.xs + length l.ys) l.xs l.ys ≡ merged (length l.fn.first + length l.fn.second) l.fn.first l.fn.second

abbrev pub decreases-loop-x : goal.decreases-loop-x
decreases-loop-x l = length l.xs + length l.ys
