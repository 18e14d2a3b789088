use Rattle.std.proofs.Common.{◌≡◌, refl}
use Rattle.npm_range.proofs.Operators.{operator_at-none}
use Rattle.npm_range.proofs.range.operator_at.Goals as goal

pub returns-in_default-strip_prefix-4-clause-operator : goal.returns-in_default-strip_prefix-4-clause-operator
unfolding lib.Utf8.encode
returns-in_default-strip_prefix-4-clause-operator c =
    rw (operator_at-none c.args.word.now c.in_default.ensures.cases c.in_default-strip_prefix.ensures.cases c.in_default-strip_prefix-2.ensures.cases c.in_default-strip_prefix-3.ensures.cases c.in_default-strip_prefix-4.ensures.cases) refl

pub returns-in_default-strip_prefix-4-clause-rest : goal.returns-in_default-strip_prefix-4-clause-rest
unfolding lib.Utf8.encode
returns-in_default-strip_prefix-4-clause-rest c =
    rw (operator_at-none c.args.word.now c.in_default.ensures.cases c.in_default-strip_prefix.ensures.cases c.in_default-strip_prefix-2.ensures.cases c.in_default-strip_prefix-3.ensures.cases c.in_default-strip_prefix-4.ensures.cases) refl
