use Rattle.closures.proofs.Descent.{within}
use Rattle.closures.proofs.task_closure.excerpt.Goals as goal

pub parts_of-requires-clause-inner : goal.parts_of-requires-clause-inner
parts_of-requires-clause-inner c = rw c.deref.ensures.value (within c.args.listing.now c.args.place c.in_ok-kept.kept.items c.requires.lower c.requires.place c.in_ok-kept.ensures.kept)
