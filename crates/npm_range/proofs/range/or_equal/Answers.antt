use Rattle.std.proofs.Common.{◌≡◌, refl}
use Rattle.npm_range.proofs.Operators.{or_equal-none}
use Rattle.npm_range.proofs.range.or_equal.Goals as goal

pub returns-in-None-clause-operator : goal.returns-in-None-clause-operator
unfolding lib.Utf8.encode
returns-in-None-clause-operator c = rw (or_equal-none c.args.alone c.args.equal c.args.rest.now c.in-None.ensures.cases) refl

pub returns-in-None-clause-rest : goal.returns-in-None-clause-rest
unfolding lib.Utf8.encode
returns-in-None-clause-rest c = rw (or_equal-none c.args.alone c.args.equal c.args.rest.now c.in-None.ensures.cases) refl
