use Rattle.ignore_rules.specs.Stacks.{rules_in}
use Rattle.ignore_rules.proofs.Ignored.{ignored_decides}
use Rattle.ignore_rules.proofs.stack.Stack.ignored.Goals as goal

pub returns-clause-meaning : goal.returns-clause-meaning
returns-clause-meaning c = rw (c.ignores.ensures, c.components.ensures.value) (ignored_decides (rules_in c.args.self.now) c.args.path.now)
