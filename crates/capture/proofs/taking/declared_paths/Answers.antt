use Rattle.capture.proofs.Takings.{lists_declared}
use Rattle.capture.proofs.taking.declared_paths.Goals as goal

pub returns-in-Ok-clause-lists : goal.returns-in-Ok-clause-lists
returns-in-Ok-clause-lists g c = lists_declared _ _ _ _ _ _ _ _ (rw c.new-found.ensures at c.in-Ok.ensures.gathered)
