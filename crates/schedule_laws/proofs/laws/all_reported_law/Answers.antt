use Rattle.schedule_laws.proofs.Reasons.{all-reported}
use Rattle.schedule_laws.proofs.laws.all_reported_law.Goals as goal

pub returns : goal.returns
returns c = all-reported
