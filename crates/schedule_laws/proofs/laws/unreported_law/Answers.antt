use Rattle.schedule_laws.proofs.Reasons.{unreported}
use Rattle.schedule_laws.proofs.laws.unreported_law.Goals as goal

pub returns : goal.returns
returns c = unreported
