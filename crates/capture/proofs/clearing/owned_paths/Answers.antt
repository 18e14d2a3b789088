use Rattle.capture.proofs.Owns.{lists_owned}
use Rattle.capture.proofs.clearing.owned_paths.Goals as goal

pub returns-in-Ok-clause-lists : goal.returns-in-Ok-clause-lists
returns-in-Ok-clause-lists g c = lists_owned _ _ _ _ _ _ _ _ (rw c.new-found.ensures at c.in-Ok.ensures.gathered)
