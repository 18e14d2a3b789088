use Rattle.std.proofs.Common.{◌≡◌, length}
use Rattle.workspaces.specs.Space.{inside_fault}
use Rattle.workspaces.proofs.checks.check_inside.Given as goal

-- what is left has the first such neighbours
abbrev pub invariant-loop-first : goal.invariant-loop-first
invariant-loop-first l = inside_fault l.packages ≡ inside_fault l.rest

abbrev pub decreases-loop-first : goal.decreases-loop-first
decreases-loop-first l = length l.rest
