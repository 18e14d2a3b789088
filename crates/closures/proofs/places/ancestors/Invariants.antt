use Rattle.std.proofs.Common.{◌≤◌, ◌+◌}
use Rattle.std.specs.BTreeSet.{contains}
use Rattle.std.specs.Ordering.{nat_cmp}
use Rattle.closures.proofs.Descent.{Found}
use Rattle.closures.proofs.places.ancestors.Given as goal

abbrev pub invariant-loop-next : goal.invariant-loop-next
invariant-loop-next l = record {
  small : l.at ≤ l.place + 1;
  found : Found l.listing l.place l.at (contains nat_cmp l.kept);
}

abbrev pub decreases-loop-next : goal.decreases-loop-next
decreases-loop-next l = l.at
