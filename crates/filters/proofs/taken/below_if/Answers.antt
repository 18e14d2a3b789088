use Rattle.filters.proofs.Places.{below_within}
use Rattle.filters.proofs.taken.below_if.Goals as goal

pub returns-in_ok-below-clause-below : goal.returns-in_ok-below-clause-below
returns-in_ok-below-clause-below c = below_within c.args.packages.now.packages c.args.set.now c.in_ok-below.field-0 c.in_ok-below.ensures.reached
