use Rattle.env_select.proofs.Decides.{selects_decides}
use Rattle.env_select.proofs.Indexed.{select_then, select_else}
use Rattle.env_select.proofs.list.EnvList.selects.Goals as goal

pub returns-then-take-clause-value : goal.returns-then-take-clause-value
returns-then-take-clause-value c = select_then c.args.self.now c.included.result.now c.excluded.result.now c.args.name.now c.take.result c.take-then-take.result c.included.ensures c.excluded.ensures c.take.ensures c.if-take.true c.take-then-take.ensures

pub returns-then-take-clause-meaning : goal.returns-then-take-clause-meaning
returns-then-take-clause-meaning c = rw (returns-then-take-clause-value c) (selects_decides c.args.self.now c.args.name.now)

pub returns-else-take-clause-value : goal.returns-else-take-clause-value
returns-else-take-clause-value c = select_else c.args.self.now c.included.result.now c.args.name.now c.take.result c.included.ensures c.take.ensures c.if-take.false

pub returns-else-take-clause-meaning : goal.returns-else-take-clause-meaning
returns-else-take-clause-meaning c = rw (returns-else-take-clause-value c) (selects_decides c.args.self.now c.args.name.now)
