use Rattle.filters.proofs.Strips.{before_is}
use Rattle.filters.proofs.words.before.Goals as goal

pub returns : goal.returns
returns c = before_is c.args.mark.now c.args.text.now c.strip_suffix.result c.strip_suffix.ensures.cases
