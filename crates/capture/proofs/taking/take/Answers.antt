use Rattle.capture.proofs.Ascents.{ascending}
use Rattle.capture.proofs.taking.take.Goals as goal

pub returns-in-Ok-read-clause-ascend : goal.returns-in-Ok-read-clause-ascend
returns-in-Ok-read-clause-ascend g c = ascending c.in-Ok.files c.in-Ok.ensures.below c.in-Ok.ensures.ascend
