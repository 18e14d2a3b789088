use Rattle.std.proofs.Common.{sym, subst, length}
use Rattle.workspaces.specs.Reach.{AreBelow}
use Rattle.filters.specs.Selection.{is_in_core}
use Rattle.filters.proofs.Places.{below_places}
use Rattle.filters.proofs.taken.neighbours_of.Goals as goal

pub below_if-requires : goal.below_if-requires
below_if-requires c = subst (λ ps. AreBelow (length c.args.packages.now.packages) ps) (sym c.in_ok-core.ensures.value) (below_places (is_in_core c.args.filter.now.core) c.args.packages.now.packages)

pub above_if-requires : goal.above_if-requires
above_if-requires c = subst (λ ps. AreBelow (length c.args.packages.now.packages) ps) (sym c.in_ok-core.ensures.value) (below_places (is_in_core c.args.filter.now.core) c.args.packages.now.packages)

pub returns-clause-below : goal.returns-clause-below
returns-clause-below c = record {
  core_below = subst (λ ps. AreBelow (length c.args.packages.now.packages) ps) (sym c.in_ok-core.ensures.value) (below_places (is_in_core c.args.filter.now.core) c.args.packages.now.packages);
  below_below = c.in_ok-below.ensures.below;
  above_below = c.in_ok-above.ensures.below;
  around_below = c.in_ok-around.ensures.below;
}
