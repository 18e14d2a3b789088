use Rattle.filters.proofs.Strips.{behind_is}
use Rattle.filters.proofs.words.behind.Goals as goal

pub returns : goal.returns
returns c = behind_is c.args.mark.now c.args.text.now c.strip_prefix.result c.strip_prefix.ensures.cases
