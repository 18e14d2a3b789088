use Rattle.page_laws.proofs.Together.{page_law}
use Rattle.page_laws.proofs.laws.page_law.Goals as goal

pub returns : goal.returns
returns c = page_law c.reported_law.ensures c.starts_law.ensures
