use Rattle.std.proofs.Common.{sym}
use Rattle.cli_words.proofs.Numbers.{refused-number}
use Rattle.cli_words.proofs.values.number.Goals as goal

pub returns-in_default : goal.returns-in_default
returns-in_default c = sym (refused-number c.args.least c.args.most c.args.text.now c.in_default.field-0 c.ranges.most.fits c.in_default.ensures.value.0)
