use Rattle.std.proofs.Common.{◌+◌, ◌*◌, length}
use Rattle.repository.specs.Reading.{contents_of}
use Rattle.workspaces.specs.Marks.{unmarked}
use Rattle.kept_packages.proofs.Reaching.{Going}
use Rattle.kept_packages.proofs.keeping.reached.Given as goal

abbrev pub invariant-loop-alloc : goal.invariant-loop-alloc
invariant-loop-alloc l = Going (contents_of l.repository) l.first l.front.marks.items l.front.waiting

abbrev pub decreases-loop-alloc : goal.decreases-loop-alloc
decreases-loop-alloc l = length l.front.waiting + 2 * unmarked l.front.marks.items
