use Rattle.std.proofs.Common.{◌≡◌, rules}
use Rattle.npm_range.proofs.Numbers.{refused-number}
use Rattle.npm_range.proofs.version.number.Goals as goal

pub returns-in_default-2 : goal.returns-in_default-2
returns-in_default-2 c = refused-number c.args.text.now c.in_default.field-0 c.in_default.ensures.value.0 (search rules)
