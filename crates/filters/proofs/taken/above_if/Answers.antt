use Rattle.filters.proofs.Places.{above_within}
use Rattle.filters.proofs.taken.above_if.Goals as goal

pub returns-in_ok-above-clause-below : goal.returns-in_ok-above-clause-below
returns-in_ok-above-clause-below c = above_within c.args.packages.now.packages c.args.set.now c.in_ok-above.field-0 c.in_ok-above.ensures.reached
