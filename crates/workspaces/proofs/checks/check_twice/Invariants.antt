use Rattle.std.proofs.Common.{◌≡◌, length}
use Rattle.workspaces.specs.Space.{twice_fault}
use Rattle.workspaces.proofs.checks.check_twice.Given as goal

-- what is left has the first such neighbours
abbrev pub invariant-loop-first : goal.invariant-loop-first
invariant-loop-first l = twice_fault l.packages ≡ twice_fault l.rest

abbrev pub decreases-loop-first : goal.decreases-loop-first
decreases-loop-first l = length l.rest
