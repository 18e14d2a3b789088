use Rattle.std.proofs.Common.{◌≡◌, ◌<◌, ◌≤◌, ℕ, length, take}
use Rattle.std.specs.Prelude.{None}
use Rattle.task_inputs.specs.Folders.{number_at}
use Rattle.kept_packages.proofs.folders.number_above.Given as goal

-- no folder from this depth on has a number
abbrev pub invariant-loop-depth : goal.invariant-loop-depth
invariant-loop-depth l = (l.depth ≤ length l.path) × ((depth : ℕ) → l.depth ≤ depth → depth < length l.path → number_at l.folders (take depth l.path) ≡ None)

abbrev pub decreases-loop-depth : goal.decreases-loop-depth
decreases-loop-depth l = l.depth
