use Rattle.glob_syntax.proofs.Matching.{spells_path_decides}
use Rattle.glob_syntax.proofs.part.spells_path.Goals as goal

pub returns-clause-meaning : goal.returns-clause-meaning
returns-clause-meaning c = rw c.spells.ensures (spells_path_decides c.args.parts.now c.args.path.now)
