use Rattle.std.proofs.Common.{refl}
use Rattle.npm_lock.proofs.Locating.{nothing_reached}
use Rattle.npm_lock.proofs.reached.Reached.nothing.Goals as goal

pub returns-clause-reached : goal.returns-clause-reached
returns-clause-reached c = nothing_reached c.args.entries.now _ c.new.ensures.items c.in_ok-set.ensures refl
