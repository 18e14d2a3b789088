use Rattle.relay_store.specs.Laws.{full_is}
use Rattle.relay_store.proofs.laws.full_law.Goals as goal

pub returns : goal.returns
returns g c r pair texts = full_is r pair texts
