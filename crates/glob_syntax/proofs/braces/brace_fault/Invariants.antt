use Rattle.std.proofs.Common.{◌≡◌, ◌≤◌, false, length}
use Rattle.rel_path.specs.Limits.{alternative_limit}
use Rattle.glob_syntax.specs.Braces.{brace_fault}
use Rattle.glob_syntax.proofs.braces.brace_fault.Given as goal

-- no fault so far
abbrev pub invariant-loop-token : goal.invariant-loop-token
invariant-loop-token l = (brace_fault false 1 l.tokens ≡ brace_fault l.inside l.alternatives l.rest) × (l.alternatives ≤ alternative_limit) × (length l.rest ≤ length l.tokens)

abbrev pub decreases-loop-token : goal.decreases-loop-token
decreases-loop-token l = length l.rest
