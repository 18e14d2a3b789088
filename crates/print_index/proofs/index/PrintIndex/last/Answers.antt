use Rattle.std.proofs.Common.{rules, length}
use Rattle.print_index.proofs.Lasts.{last_below-some, last_below-none}
use Rattle.print_index.proofs.index.PrintIndex.last.Goals as goal

pub returns-clause-greatest : goal.returns-clause-greatest
returns-clause-greatest c = last_below-some c.args.self.now.digests (length c.args.self.now.digests) c.args.digest.now c.copied.result (search rules)

pub returns-clause-none : goal.returns-clause-none
returns-clause-none c = last_below-none c.args.self.now.digests (length c.args.self.now.digests) c.args.digest.now c.copied.result (search rules)
