use Rattle.std.proofs.Common.{◌≡◌, ◌++◌, length}
use Rattle.glob_syntax.specs.Classes.{members}
use Rattle.glob_syntax.proofs.class.read_members.Given as goal

-- the ranges so far, before those of what is left
abbrev pub invariant-loop-first : goal.invariant-loop-first
invariant-loop-first l = members l.body ≡ l.ranges.items ++ members l.rest

abbrev pub decreases-loop-first : goal.decreases-loop-first
decreases-loop-first l = length l.rest
